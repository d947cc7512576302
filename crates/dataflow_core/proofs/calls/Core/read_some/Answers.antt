use Rattle.dataflow_core.proofs.calls.Core.read_some.Goals as goal

pub returns-clause-ends : goal.returns-clause-ends
returns-clause-ends g c = rw (← c.self.view_is) c.read_some.ensures.ends
