use Rattle.std.proofs.Common.{sym, subst}
use Rattle.std.specs.List.Sorted.{IsStrictlySortedBy}
use Rattle.std.specs.Map.{keys_of}
use Rattle.snapshot_store.specs.Store.{key_cmp}
use Rattle.snapshot_store.proofs.Placed.{sorted_empty}
use Rattle.snapshot_store.proofs.parts.Parts.new.Goals as goal

pub invariant_of-result : goal.invariant_of-result
invariant_of-result c = subst (λ es. IsStrictlySortedBy key_cmp (keys_of es)) (sym c.new.ensures.items) (sorted_empty key_cmp)
