use Rattle.std.proofs.Common.{ap, sym, subst, length, ◌∙◌}
use Rattle.std.specs.List.Sorted.{IsStrictlySortedBy}
use Rattle.std.specs.Map.{keys_of}
use Rattle.state_table.proofs.Places.{length-entries_in, keys-entries_in}
use Rattle.state_table.proofs.table.Table.len.Goals as goal

pub returns-clause-len : goal.returns-clause-len
returns-clause-len g c =
    c.len.ensures.len ∙ ap length c.as_btree_map.ensures ∙ sym (length-entries_in c.self.inside.slots.items c.self.inside.places c.self.invariant.0.there) ∙ ap length c.self.view_is

pub returns-clause-ordered : goal.returns-clause-ordered
returns-clause-ordered g c =
    subst (IsStrictlySortedBy g.K.Ord.cmp) (sym (keys-entries_in c.self.inside.slots.items c.self.inside.places c.self.invariant.0.there) ∙ ap keys_of c.self.view_is) c.self.invariant.1
