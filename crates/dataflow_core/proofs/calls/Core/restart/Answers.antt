use Rattle.dataflow_core.proofs.calls.Core.restart.Goals as goal

pub returns-clause-ends : goal.returns-clause-ends
returns-clause-ends g c = rw (← c.self.view_is) c.restart-outcome.ensures.ends

pub returns-clause-step : goal.returns-clause-step
returns-clause-step g c =
    let e = c.restart-outcome.ensures in
    rw (← c.self.view_is)
    (record { goes = e.goes; sound = e.sound; same = e.same; begins = e.begins; cut = e.cut; good = e.good })
