use Rattle.std.proofs.Common.{◌≡◌, ◌++◌}
use Rattle.std.specs.Vec.Iter.{into_iter_items}
use Rattle.claims.specs.Places.{left_at}
use Rattle.claims.proofs.left.entries_of.Given as goal

-- the entries so far, and then those of the rest
abbrev pub invariant-loop-key : goal.invariant-loop-key
invariant-loop-key g l = l.entries.items ++ left_at (into_iter_items l.key-iterator) ≡ left_at l.fn.places.items
