use Rattle.std.proofs.Common.{sym, subst}
use Rattle.std.specs.List.Sorted.{IsStrictlySortedBy}
use Rattle.std.specs.Ordering.{nat_cmp}
use Rattle.snapshot_store.proofs.Placed.{sorted_empty}
use Rattle.snapshot_store.proofs.numbers.Numbers.new.Goals as goal

pub from_complete-requires : goal.from_complete-requires
from_complete-requires c = subst (IsStrictlySortedBy nat_cmp) (sym c.new.ensures.items) (sorted_empty nat_cmp)
