use Rattle.std.proofs.Common.{◌≡◌, Some, None, true, cond, length, ap, sym, subst, ◌∙◌, arith}
use Rattle.std.specs.Prelude.{is_some}
use Rattle.std.specs.List.Sorted.{IsStrictlySortedBy}
use Rattle.std.specs.Map.{keys_of}
use Rattle.keyed_state.specs.Overlay.{put_over}
use Rattle.keyed_state.proofs.Laid.{put_over-rises, length-put_over}
use Rattle.keyed_state.proofs.Several.{all_above, counted_so, value_at-all, no_fewer}
use Rattle.keyed_state.proofs.keyed_map.KeyedState.set_all_beside.Goals as goal

-- ---- into the overlay

above : goal.returns-then-self-clause-entries
above g c = all_above g.met.K.Ord.total c.self.inside.base c.self.inside.overlay.entries c.args.entries.items c.put_all.new.map.entries c.args.self.now.entries c.self.invariant.overlay_rises c.in_ok-put_all.ensures.ok (ap (λ m. m.entries) c.self.view_is)

pub invariant_of-self-then-self : goal.invariant_of-self-then-self
invariant_of-self-then-self g c =
    let order = g.met.K.Ord.total in
    let rise = subst (λ es. IsStrictlySortedBy g.K.Ord.cmp (keys_of es)) (ap (λ m. m.entries) c.self.view_is) (put_over-rises order c.self.inside.base c.self.inside.overlay.entries c.self.invariant.base_rises) in
    record {
      base_rises = c.self.invariant.base_rises;
      overlay_rises = subst (λ es. IsStrictlySortedBy g.K.Ord.cmp (keys_of es)) (sym c.in_ok-put_all.ensures.ok) (put_over-rises order c.self.inside.overlay.entries c.args.entries.items c.self.invariant.overlay_rises);
      counted = counted_so order c.args.self.now.entries c.args.entries.items _ _ rise c.requires.rising c.requires.len (above g c);
    }

pub returns-then-self-clause-entries : goal.returns-then-self-clause-entries
returns-then-self-clause-entries g c = above g c

pub returns-then-self-clause-states : goal.returns-then-self-clause-states
returns-then-self-clause-states g c = λ q. value_at-all g.met.K.Ord.total c.args.self.now.entries c.args.entries.items _ q c.requires.rising (above g c)

pub returns-then-self-clause-ordered : goal.returns-then-self-clause-ordered
returns-then-self-clause-ordered g c = put_over-rises g.met.K.Ord.total c.self.inside.base c.put_all.new.map.entries c.self.invariant.base_rises

pub returns-in_err-put_all-clause-ordered : goal.returns-in_err-put_all-clause-ordered
returns-in_err-put_all-clause-ordered g c = put_over-rises g.met.K.Ord.total c.self.inside.base c.put_all.new.map.entries c.self.invariant.base_rises

pub returns-then-self-clause-unmerged : goal.returns-then-self-clause-unmerged
returns-then-self-clause-unmerged g c =
    let overlay = c.self.inside.overlay.entries in
    let before : length overlay ≡ c.args.self.now.unmerged = ap (λ m. m.unmerged) c.self.view_is in
    let most = length-put_over g.met.K.Ord.total overlay c.args.entries.items in
    let after : length c.put_all.new.map.entries ≡ length (put_over g.K.Ord.cmp overlay c.args.entries.items) = ap (λ l. length l) c.in_ok-put_all.ensures.ok in
    let on : is_some c.args.self.now.frozen ≡ true = sym (ap (λ m. is_some m.frozen) c.self.view_is) ∙ ap (λ b. is_some (cond b (Some c.self.inside.base) None)) c.if-self.true in
    let more : cond (is_some c.args.self.now.frozen) (length c.args.entries.items) 0 ≡ length c.args.entries.items = ap (λ b. cond b (length c.args.entries.items) 0) on in
    omega arith

pub returns-then-self-clause-none_merged : goal.returns-then-self-clause-none_merged
returns-then-self-clause-none_merged g c =
    let overlay = c.self.inside.overlay.entries in
    let before : length overlay ≡ c.args.self.now.unmerged = ap (λ m. m.unmerged) c.self.view_is in
    let least = no_fewer g.met.K.Ord.total overlay c.args.entries.items c.self.invariant.overlay_rises in
    let after : length c.put_all.new.map.entries ≡ length (put_over g.K.Ord.cmp overlay c.args.entries.items) = ap (λ l. length l) c.in_ok-put_all.ensures.ok in
    omega arith

-- ---- into both

pub returns-in_err-put_in_both-clause-ordered : goal.returns-in_err-put_in_both-clause-ordered
returns-in_err-put_in_both-clause-ordered g c = put_over-rises g.met.K.Ord.total c.put_in_both.new.base c.put_in_both.new.overlay.entries c.put_in_both.ensures.base_rises

below : goal.returns-clause-entries
below g c = c.in_ok-put_in_both.ensures.ok ∙ ap (λ m. put_over g.K.Ord.cmp m.entries c.args.entries.items) c.self.view_is

pub invariant_of-self-2 : goal.invariant_of-self-2
invariant_of-self-2 g c =
    let order = g.met.K.Ord.total in
    let rise = subst (λ es. IsStrictlySortedBy g.K.Ord.cmp (keys_of es)) (ap (λ m. m.entries) c.self.view_is) (put_over-rises order c.self.inside.base c.self.inside.overlay.entries c.self.invariant.base_rises) in
    record {
      base_rises = c.put_in_both.ensures.base_rises;
      overlay_rises = c.put_in_both.ensures.overlay_rises;
      counted = counted_so order c.args.self.now.entries c.args.entries.items _ _ rise c.requires.rising c.requires.len (below g c);
    }

pub returns-clause-entries : goal.returns-clause-entries
returns-clause-entries g c = below g c

pub returns-clause-states : goal.returns-clause-states
returns-clause-states g c = λ q. value_at-all g.met.K.Ord.total c.args.self.now.entries c.args.entries.items _ q c.requires.rising (below g c)

pub returns-clause-ordered : goal.returns-clause-ordered
returns-clause-ordered g c = put_over-rises g.met.K.Ord.total c.put_in_both.new.base c.put_in_both.new.overlay.entries c.put_in_both.ensures.base_rises
