use Rattle.dataflow_core.proofs.Preserving.{of_append}
use Rattle.thread_runner.proofs.Keeping.{call_kept}
use Rattle.thread_runner.proofs.station.Station.append.Goals as goal

pub invariant_of-self : goal.invariant_of-self
invariant_of-self g c = call_kept _ _ _ _ _ c.append.ensures.claims (of_append _ _ _ c.append.ensures.ends.2 c.append.ensures.sound) c.self.invariant
