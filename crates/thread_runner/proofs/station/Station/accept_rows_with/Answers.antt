use Rattle.dataflow_core.proofs.Preserving.{of_step}
use Rattle.row_publishing.proofs.Shown.{shows_kept}
use Rattle.thread_runner.proofs.station.Station.accept_rows_with.Goals as goal

pub returns-clause-plain : goal.returns-clause-plain
returns-clause-plain g c = rw (← c.self.view_is) c.accept_rows_counted.ensures.plain

pub returns-clause-ends : goal.returns-clause-ends
returns-clause-ends g c = rw (← c.self.view_is) c.accept_rows_counted.ensures.ends

pub invariant_of-self : goal.invariant_of-self
invariant_of-self g c = (c.accept_rows_counted.ensures.within, shows_kept _ _ _ _ (of_step _ _ _ c.accept_rows_counted.ensures.step) c.self.invariant.1)
