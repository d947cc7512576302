use Rattle.std.proofs.Common.{◌∙◌}
use Rattle.dataflow_core.proofs.Preserving.{of_both}
use Rattle.thread_runner.proofs.station.Station.choose_some.Goals as goal

pub loop-init : goal.loop-init
loop-init g c = record { total = c.go_on.ensures.total; step = c.go_on.ensures.step }

pub loop-preserved : goal.loop-preserved
loop-preserved g c = record { total = c.choose.ensures.total ∙ c.loop.invariant.total; step = of_both _ _ _ _ c.loop.invariant.step c.choose.ensures.step }

pub returns-in_default-choose : goal.returns-in_default-choose
returns-in_default-choose g c = record { total = c.choose.ensures.total ∙ c.loop.invariant.total; step = of_both _ _ _ _ c.loop.invariant.step c.choose.ensures.step }

pub returns-clause-step : goal.returns-clause-step
returns-clause-step g c = of_both _ _ _ _ c.loop.invariant.step c.choose-next.ensures.step
