use Rattle.std.proofs.Common.{◌≡◌}
use Rattle.engine_settling.specs.Bringing.{Holds, Brings}
use Rattle.engine_settling.proofs.Looping.{SourcesBefore}
use Rattle.engine_settling.proofs.injecting.inject_sources.Given as goal
use Rattle.engine_model.proofs.RulesOf.{rules_of}

-- the sources among the tasks so far have copied
abbrev pub invariant-loop-task : goal.invariant-loop-task
invariant-loop-task g l = record {
  brings : Brings (rules_of g.O.Operator g.O.Key.Ord g.O.Record.Codec g.O.Key.Codec g.O.State.Codec) l.fn.engine l.engine;
  so_far : Holds l.engine (λ graph h. SourcesBefore graph h l.task);
  faults : l.engine.faults ≡ l.fn.engine.faults;
}
