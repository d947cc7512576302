use Rattle.std.proofs.Common.{◌≡◌, List, Some, slice_get}
use Rattle.std.specs.List.{All}
use Rattle.job_state.specs.declared.holding.Holding.TheVariants as holds
use Rattle.claims.proofs.Copies.{rest_of}
use Rattle.claims.proofs.Working.{Has}
use Rattle.claims.proofs.due.has_copied.Given as goal

-- the task has all these states if it has those that were not met yet, and the other way round
abbrev pub invariant-loop-key : goal.invariant-loop-key
invariant-loop-key g l = record {
  each : (entries : List (g.row.O-Key.Denot × g.row.O-State.Denot)) → slice_get l.attempt.tasks l.task ≡ Some (holds.Operator entries) → All (Has g.O.Key.Ord.cmp entries) (rest_of l.key-iterator) → All (Has g.O.Key.Ord.cmp entries) l.copies;
  some : (entries : List (g.row.O-Key.Denot × g.row.O-State.Denot)) → slice_get l.attempt.tasks l.task ≡ Some (holds.Operator entries) → All (Has g.O.Key.Ord.cmp entries) l.copies → All (Has g.O.Key.Ord.cmp entries) (rest_of l.key-iterator);
}
