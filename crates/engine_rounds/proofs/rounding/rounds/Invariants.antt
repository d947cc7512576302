use Rattle.std.proofs.Common.{◌≡◌, ◌+◌, List, length}
use Rattle.engine.specs.Readers.{pending_in}
use Rattle.dataflow_model.specs.Machine.{Move}
use Rattle.engine_rounds.specs.Turns.{Made}
use Rattle.engine_rounds.proofs.rounding.rounds.Given as goal
use Rattle.engine_model.proofs.RulesOf.{rules_of}

-- as many plain steps were made as turns were taken
abbrev pub invariant-spending : goal.invariant-spending
invariant-spending g l = record {
  made : (moves : List Move) × (length moves + l.left ≡ l.turns) × Made (rules_of g.O.Operator g.O.Key.Ord g.O.Record.Codec g.O.Key.Codec g.O.State.Codec) l.fn.engine l.engine moves;
  faults : l.engine.faults ≡ l.fn.engine.faults;
  pending : pending_in l.engine.held ≡ pending_in l.fn.engine.held;
}

abbrev pub decreases-spending : goal.decreases-spending
decreases-spending g l = l.left
