use Rattle.std.proofs.Common.{◌≡◌, ◌++◌, []}
use Rattle.claims.proofs.Copies.{rest_of}
use Rattle.claims.specs.Places.{given_at, left_at}
use Rattle.claims.proofs.left.places_of.Given as goal

abbrev pub invariant-loop-key : goal.invariant-loop-key
invariant-loop-key g l = record {
  given : given_at l.places.items ++ rest_of l.key-iterator ≡ l.copies;
  none : left_at l.places.items ≡ [];
}
