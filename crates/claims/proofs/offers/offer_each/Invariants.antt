use Rattle.std.proofs.Common.{◌≡◌, ◌++◌, take, map}
use Rattle.std.specs.Vec.{vec_capacity}
use Rattle.claims.specs.declared.parts.Given.TheVariants as given
use Rattle.claims.proofs.offers.offer_each.Given as goal

-- the work on the records so far, and room for the others
abbrev pub invariant-loop-row : goal.invariant-loop-row
invariant-loop-row g l = record {
  rows : l.works.items ≡ l.fn.works.items ++ map given.Sink (take l.row-index l.rows);
  room : vec_capacity l.works ≡ vec_capacity l.fn.works;
}
