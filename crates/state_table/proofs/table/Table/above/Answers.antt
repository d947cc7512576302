use Rattle.std.proofs.Common.{◌≡◌, Bool, true, false, not, ◌&&◌, List, [], ◌∷◌, refl, sym, ap, subst, filter, ◌∙◌}
use Rattle.std.specs.List.Sorted.{IsStrictlySortedBy}
use Rattle.std.specs.Map.{keys_of}
use Rattle.std.specs.Ordering.{is_lt}
use Rattle.state_table.proofs.Places.{keys-entries_in}
use Rattle.state_table.proofs.Walked.{some_slots, some_entries}
use Rattle.state_table.proofs.table.Table.above.Goals as goal

-- tests that agree let the same pass
alike : {X : Type 0} (one other : X → Bool) (xs : List X) → ((x : X) → one x ≡ other x) → filter one xs ≡ filter other xs
alike one other [] same = refl
alike one other (x ∷ xs) same = rw (same x) (rw (alike one other xs same) refl)

and_true : (b : Bool) → (b && not false) ≡ b
and_true true = refl
and_true false = refl

pub invariant_of-result : goal.invariant_of-result
invariant_of-result g c =
    let test : g.row.K.Denot → Bool = λ key. is_lt (g.K.Ord.cmp c.args.key.now key) in
    let those = c.range.ensures.between tt ∙ alike _ (λ e. test e.0) _ (λ e. and_true (test e.0)) ∙ ap (filter (λ e. test e.0)) c.as_btree_map.ensures in
    rw those (rw c.deref.ensures.value (some_slots test c.self.inside.slots.items c.self.inside.places c.self.invariant.0.there))

pub returns-clause-entries : goal.returns-clause-entries
returns-clause-entries g c =
    let test : g.row.K.Denot → Bool = λ key. is_lt (g.K.Ord.cmp c.args.key.now key) in
    let those = c.range.ensures.between tt ∙ alike _ (λ e. test e.0) _ (λ e. and_true (test e.0)) ∙ ap (filter (λ e. test e.0)) c.as_btree_map.ensures in
    rw those (rw c.deref.ensures.value (some_entries test c.self.inside.slots.items c.self.inside.places c.self.invariant.0.there ∙ ap (filter (λ e. test e.0)) c.self.view_is))

pub returns-clause-ordered : goal.returns-clause-ordered
returns-clause-ordered g c =
    subst (IsStrictlySortedBy g.K.Ord.cmp) (sym (keys-entries_in c.self.inside.slots.items c.self.inside.places c.self.invariant.0.there) ∙ ap keys_of c.self.view_is) c.self.invariant.1
