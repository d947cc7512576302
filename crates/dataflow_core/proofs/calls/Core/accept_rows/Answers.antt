use Rattle.std.proofs.Common.{inl, refl}
use Rattle.dataflow_core.proofs.calls.Core.accept_rows.Goals as goal

pub returns-clause-step : goal.returns-clause-step
returns-clause-step g c =
    rw (← c.self.view_is)
    (record { goes = c.accept_rows.ensures.goes; sound = c.accept_rows.ensures.sound; same = c.accept_rows.ensures.same; begins = c.accept_rows.ensures.begins })

pub returns-clause-ends : goal.returns-clause-ends
returns-clause-ends g c =
    let may = rw (← c.self.view_is) at c.in_default.ensures.ok in
    rw (← c.self.view_is) (inl (may, c.accept_rows.ensures.ends, refl))

pub returns-clause-plain : goal.returns-clause-plain
returns-clause-plain g c = rw (← c.self.view_is) c.accept_rows.ensures.plain
