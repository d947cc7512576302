use Rattle.dataflow_core.proofs.Preserving.{of_step}
use Rattle.thread_runner.proofs.Keeping.{call_kept}
use Rattle.thread_runner.proofs.station.Station.persist.Goals as goal

pub returns-clause-ends : goal.returns-clause-ends
returns-clause-ends g c = rw (← c.self.view_is) c.persist.ensures.ends

pub invariant_of-self : goal.invariant_of-self
invariant_of-self g c = call_kept _ _ _ _ _ c.persist.ensures.claims (of_step _ _ _ c.persist.ensures.step) c.self.invariant
