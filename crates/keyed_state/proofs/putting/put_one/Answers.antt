use Rattle.std.proofs.Common.{Some, None, [], ◌∷◌, ◌++◌, ap, ap₂, sym, subst, ◌∙◌}
use Rattle.std.specs.BTreeMap.{insert_entry}
use Rattle.std.specs.List.Sorted.{IsStrictlySortedBy}
use Rattle.std.specs.Map.{keys_of}
use Rattle.keyed_state.proofs.Laid.{insert_entry-rises}
use Rattle.keyed_state.proofs.Several.{set_out, noted_undone}
use Rattle.keyed_state.proofs.putting.put_one.Goals as goal

-- ---- the key is there

known : goal.returns-then-swap_state-clause-entries
known g c =
    let there = c.swap_state.ensures.there c.if-swap_state.true in
    there.1 ∙ set_out g.met.K.Ord.total (g.M.StateMap.entries c.args.map.now) c.args.key c.swap_state.new.state c.args.state c.swap_state.ensures.ordered there.0

pub returns-then-swap_state-clause-entries : goal.returns-then-swap_state-clause-entries
returns-then-swap_state-clause-entries g c = known g c

pub returns-then-swap_state-clause-undone : goal.returns-then-swap_state-clause-undone
returns-then-swap_state-clause-undone g c =
    let there = c.swap_state.ensures.there c.if-swap_state.true in
    noted_undone g.met.K.Ord.total c.args.notes.now.items c.push_reserved.new.self.items (g.M.StateMap.entries c.args.map.now) _ c.args.key c.args.state (Some c.swap_state.new.state) c.swap_state.ensures.ordered there.0 c.push_reserved.ensures.items (known g c)

pub returns-then-swap_state-clause-ordered : goal.returns-then-swap_state-clause-ordered
returns-then-swap_state-clause-ordered g c =
    subst (λ l. IsStrictlySortedBy g.K.Ord.cmp (keys_of l)) (sym (known g c)) (insert_entry-rises g.met.K.Ord.total (g.M.StateMap.entries c.args.map.now) c.args.key c.args.state c.swap_state.ensures.ordered)

-- ---- it is new

pub returns-clause-undone : goal.returns-clause-undone
returns-clause-undone g c =
    let none = c.swap_state.ensures.none c.if-swap_state.false in
    let noted = c.push_reserved-2.ensures.items ∙ ap (λ k. c.args.notes.now.items ++ (k, None) ∷ []) c.in_ok-note.ensures in
    let put = c.in_ok-put_state.ensures.ok ∙ ap₂ (λ es s. insert_entry g.K.Ord.cmp es c.args.key s) none.1 none.2 in
    noted_undone g.met.K.Ord.total c.args.notes.now.items c.push_reserved-2.new.self.items (g.M.StateMap.entries c.args.map.now) (g.M.StateMap.entries c.put_state.new.self) c.args.key c.args.state None c.swap_state.ensures.ordered none.0 noted put

pub returns-clause-ordered : goal.returns-clause-ordered
returns-clause-ordered g c =
    let none = c.swap_state.ensures.none c.if-swap_state.false in
    let put = c.in_ok-put_state.ensures.ok ∙ ap₂ (λ es s. insert_entry g.K.Ord.cmp es c.args.key s) none.1 none.2 in
    subst (λ l. IsStrictlySortedBy g.K.Ord.cmp (keys_of l)) (sym put) (insert_entry-rises g.met.K.Ord.total (g.M.StateMap.entries c.args.map.now) c.args.key c.args.state c.swap_state.ensures.ordered)
