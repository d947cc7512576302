use Rattle.std.proofs.Common.{◌≡◌, ◌<◌, ◌+◌, ℕ, List, length}
use Rattle.engine.specs.Readers.{pending_in}
use Rattle.dataflow_model.specs.Machine.{Move}
use Rattle.engine_rounds.specs.Idle.{IsIdleIn}
use Rattle.engine_rounds.specs.Turns.{Made}
use Rattle.engine_rounds.proofs.rounding.round.Given as goal
use Rattle.engine_model.proofs.RulesOf.{rules_of}

-- as many plain steps were made as turns were taken; and while none was, no task so far has one to make
abbrev pub invariant-loop-task : goal.invariant-loop-task
invariant-loop-task g l = record {
  made : (moves : List Move) × (length moves + l.left ≡ l.fn.left) × Made (rules_of g.O.Operator g.O.Key.Ord g.O.Record.Codec g.O.Key.Codec g.O.State.Codec) l.fn.engine l.engine moves;
  idle : l.left ≡ l.fn.left → (l.engine ≡ l.fn.engine) × ((t : ℕ) → t < l.task → IsIdleIn l.fn.engine t);
  faults : l.engine.faults ≡ l.fn.engine.faults;
  pending : pending_in l.engine.held ≡ pending_in l.fn.engine.held;
}
