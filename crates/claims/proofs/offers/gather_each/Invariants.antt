use Rattle.std.proofs.Common.{◌≡◌, ◌++◌, take}
use Rattle.std.specs.Prelude.{vec_capacity}
use Rattle.std.specs.List.{All}
use Rattle.claims.specs.Keys.{HasItsKey}
use Rattle.claims.proofs.offers.gather_each.Given as goal

-- the records so far are carried, with their keys, and there is room for the others
abbrev pub invariant-loop-row : goal.invariant-loop-row
invariant-loop-row g l = record {
  rows : l.gathered.rows.items ≡ l.fn.gathered.rows.items ++ take l.row-index l.rows;
  room : vec_capacity l.gathered.rows ≡ vec_capacity l.fn.gathered.rows;
  keys : All (HasItsKey g.O.Operator.meaning l.operator l.gathered.keys.items) l.gathered.rows.items;
}
