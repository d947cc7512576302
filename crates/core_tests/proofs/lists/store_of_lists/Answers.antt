use Rattle.std.proofs.Common.{ℕ, [], ◌∷◌, nat_cmp}
use Rattle.std.specs.List.Sorted.{IsStrictlySortedBy}
use Rattle.core_tests.proofs.lists.store_of_lists.Goals as goal

one_rises : (n : ℕ) → IsStrictlySortedBy nat_cmp (n ∷ [])
unfolding IsStrictlySortedBy
one_rises n = (tt, tt)

pub from_lists-requires-clause-rising : goal.from_lists-requires-clause-rising
from_lists-requires-clause-rising c = rw c.in_ok-only.ensures (one_rises 1)
