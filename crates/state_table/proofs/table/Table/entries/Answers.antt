use Rattle.std.proofs.Common.{ap, sym, subst, refl, ◌∙◌}
use Rattle.std.specs.List.Sorted.{IsStrictlySortedBy}
use Rattle.std.specs.Map.{keys_of}
use Rattle.state_table.proofs.Places.{keys-entries_in}
use Rattle.state_table.proofs.Walked.{all_pass}
use Rattle.state_table.proofs.table.Table.entries.Goals as goal

pub invariant_of-result : goal.invariant_of-result
invariant_of-result g c =
    let all = c.range.ensures.between tt ∙ all_pass _ _ (λ e. refl) ∙ c.as_btree_map.ensures in
    rw all (rw c.deref.ensures.value c.self.invariant.0.there)

pub returns-clause-entries : goal.returns-clause-entries
returns-clause-entries g c =
    let all = c.range.ensures.between tt ∙ all_pass _ _ (λ e. refl) ∙ c.as_btree_map.ensures in
    rw all (rw c.deref.ensures.value c.self.view_is)

pub returns-clause-ordered : goal.returns-clause-ordered
returns-clause-ordered g c =
    subst (IsStrictlySortedBy g.K.Ord.cmp) (sym (keys-entries_in c.self.inside.slots.items c.self.inside.places c.self.invariant.0.there) ∙ ap keys_of c.self.view_is) c.self.invariant.1
