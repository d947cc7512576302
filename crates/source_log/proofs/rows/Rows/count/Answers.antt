use Rattle.source_log.proofs.rows.Rows.count.Goals as goal

pub returns-clause-fit : goal.returns-clause-fit
returns-clause-fit g c = rw (← c.self.view_is) c.self.invariant
