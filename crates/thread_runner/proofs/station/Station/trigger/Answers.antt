use Rattle.dataflow_core.proofs.Preserving.{of_step}
use Rattle.thread_runner.proofs.Keeping.{call_kept}
use Rattle.thread_runner.proofs.station.Station.trigger.Goals as goal

pub invariant_of-self : goal.invariant_of-self
invariant_of-self g c = call_kept _ _ _ _ _ c.trigger.ensures.claims (of_step _ _ _ c.trigger.ensures.step) c.self.invariant
