use Rattle.std.proofs.Common.{◌≡◌, length}
use Rattle.std.specs.Prelude.{vec_len, vec_capacity}
use Rattle.deliveries.specs.Deliveries.{on_first}
use Rattle.claims.proofs.carried.without_port.Given as goal

-- those met so far, and the room is what it was
abbrev pub invariant-loop-row : goal.invariant-loop-row
invariant-loop-row g l = record {
  rows : on_first l.rows.items ≡ l.yielded;
  len : vec_len l.rows ≡ length l.yielded;
  capacity : vec_capacity l.rows ≡ vec_capacity l.fn.rows;
}
