use Rattle.std.proofs.Common.{◌≡◌}
use Rattle.engine_model.specs.Sound.{IsSound}
use Rattle.engine_settling.specs.Settled.{Commits, HaveCommittedBefore}
use Rattle.engine_settling.proofs.putting.commit_sinks.Given as goal
use Rattle.engine_model.proofs.RulesOf.{rules_of}

-- the sinks among the tasks so far have committed
abbrev pub invariant-loop-task : goal.invariant-loop-task
invariant-loop-task g l = record {
  commits : Commits (rules_of g.O.Operator g.O.Key.Ord g.O.Record.Codec g.O.Key.Codec g.O.State.Codec) l.fn.engine l.engine;
  committed : IsSound (rules_of g.O.Operator g.O.Key.Ord g.O.Record.Codec g.O.Key.Codec g.O.State.Codec) l.fn.engine → HaveCommittedBefore l.engine l.task;
  faults : l.engine.faults ≡ l.fn.engine.faults;
}
