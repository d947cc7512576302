use Rattle.dataflow_core.proofs.calls.Core.is_fresh.Goals as goal

pub returns-clause-line : goal.returns-clause-line
returns-clause-line g c = rw (← c.self.view_is) c.is_fresh.ensures.line
