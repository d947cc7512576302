use Rattle.std.proofs.Common.{◌≡◌}
use Rattle.engine_settling.specs.Bringing.{Holds, Brings}
use Rattle.engine_settling.proofs.Looping.{AcksBefore}
use Rattle.engine_settling.proofs.putting.persist_tasks.Given as goal
use Rattle.engine_model.proofs.RulesOf.{rules_of}

-- the tasks so far have acknowledged
abbrev pub invariant-loop-task : goal.invariant-loop-task
invariant-loop-task g l = record {
  brings : Brings (rules_of g.O.Operator g.O.Key.Ord g.O.Record.Codec g.O.Key.Codec g.O.State.Codec) l.fn.engine l.engine;
  so_far : Holds l.engine (λ graph h. AcksBefore graph h l.task);
  faults : l.engine.faults ≡ l.fn.engine.faults;
}
