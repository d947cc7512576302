use Rattle.std.proofs.Common.{◌≡◌}
use Rattle.engine_settling.specs.Bringing.{Holds, Brings}
use Rattle.engine_settling.proofs.Looping.{CopiesBefore}
use Rattle.engine_settling.proofs.aligning.copy_tasks.Given as goal
use Rattle.engine_model.proofs.RulesOf.{rules_of}

-- the tasks so far in the order have copied
abbrev pub invariant-loop-place : goal.invariant-loop-place
invariant-loop-place g l = record {
  brings : Brings (rules_of g.O.Operator g.O.Key.Ord g.O.Record.Codec g.O.Key.Codec g.O.State.Codec) l.fn.engine l.engine;
  so_far : Holds l.engine (λ graph h. CopiesBefore graph h l.place);
  faults : l.engine.faults ≡ l.fn.engine.faults;
}
