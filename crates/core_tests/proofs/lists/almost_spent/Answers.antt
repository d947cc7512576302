use Rattle.std.proofs.Common.{[], nat_cmp}
use Rattle.std.specs.List.Sorted.{IsStrictlySortedBy}
use Rattle.core_tests.proofs.lists.almost_spent.Goals as goal

none_rises : IsStrictlySortedBy nat_cmp []
unfolding IsStrictlySortedBy
none_rises = tt

pub from_lists-requires-clause-rising : goal.from_lists-requires-clause-rising
from_lists-requires-clause-rising c = rw c.new-completes.ensures none_rises
