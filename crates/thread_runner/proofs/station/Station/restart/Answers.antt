use Rattle.dataflow_core.proofs.Preserving.{of_restart}
use Rattle.thread_runner.proofs.Keeping.{restart_kept}
use Rattle.thread_runner.proofs.station.Station.restart.Goals as goal

pub returns-clause-ends : goal.returns-clause-ends
returns-clause-ends g c = rw (← c.self.view_is) c.restart.ensures.ends

pub invariant_of-self : goal.invariant_of-self
invariant_of-self g c = restart_kept _ _ _ _ _ _ c.restart.ensures.claims (of_restart _ _ _ _ c.restart.ensures.step) c.self.invariant
