use Rattle.std.proofs.Common.{◌≡◌}
use Rattle.engine_settling.specs.Bringing.{Holds, Brings}
use Rattle.engine_settling.specs.Awaiting.{IsAwaited, leading_in}
use Rattle.engine_settling.proofs.taking.up_to_barrier.Given as goal
use Rattle.engine_model.proofs.RulesOf.{rules_of}

-- records were worked, and the barrier is still awaited
abbrev pub invariant-working : goal.invariant-working
invariant-working g l = record {
  brings : Brings (rules_of g.O.Operator g.O.Key.Ord g.O.Record.Codec g.O.Key.Codec g.O.State.Codec) l.fn.engine l.engine;
  so_far : Holds l.engine (λ graph h. IsAwaited graph h l.task l.input l.channel);
  faults : l.engine.faults ≡ l.fn.engine.faults;
}

-- the records before the barrier
abbrev pub decreases-working : goal.decreases-working
decreases-working g l = leading_in l.engine.held l.channel
