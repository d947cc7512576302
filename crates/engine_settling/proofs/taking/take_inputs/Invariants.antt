use Rattle.std.proofs.Common.{◌≡◌}
use Rattle.engine_settling.specs.Bringing.{Holds, Brings}
use Rattle.engine_settling.proofs.Looping.{InputsBefore}
use Rattle.engine_settling.proofs.taking.take_inputs.Given as goal
use Rattle.engine_model.proofs.RulesOf.{rules_of}

-- the barriers of the inputs so far that are marked so were taken
abbrev pub invariant-loop-input : goal.invariant-loop-input
invariant-loop-input g l = record {
  brings : Brings (rules_of g.O.Operator g.O.Key.Ord g.O.Record.Codec g.O.Key.Codec g.O.State.Codec) l.fn.engine l.engine;
  so_far : Holds l.engine (λ graph h. InputsBefore graph h l.marked l.task l.input);
  faults : l.engine.faults ≡ l.fn.engine.faults;
}
