use Rattle.std.proofs.Common.{sym, subst}
use Rattle.std.specs.List.{zip}
use Rattle.std.specs.List.Sorted.{IsStrictlySortedBy}
use Rattle.std.specs.Map.{keys_of}
use Rattle.claims.proofs.states.States.none.Goals as goal

-- no key stands behind another
pub invariant_of-copies : goal.invariant_of-copies
unfolding IsStrictlySortedBy
invariant_of-copies g c =
    subst (λ keys. IsStrictlySortedBy g.K.Ord.cmp (keys_of (zip keys c.new-2.result.items))) (sym c.new.ensures.items) tt
