use Rattle.dataflow_core.proofs.Preserving.{of_step}
use Rattle.row_publishing.proofs.Shown.{shows_kept}
use Rattle.thread_runner.proofs.station.Station.finish_with.Goals as goal

pub returns-clause-plain : goal.returns-clause-plain
returns-clause-plain g c = rw (← c.self.view_is) c.finish_counted.ensures.plain

pub invariant_of-self : goal.invariant_of-self
invariant_of-self g c = (c.finish_counted.ensures.within, shows_kept _ _ _ _ (of_step _ _ _ c.finish_counted.ensures.step) c.self.invariant.1)
