use Rattle.dataflow_core.proofs.calls.Core.read.Goals as goal

pub returns-clause-ends : goal.returns-clause-ends
returns-clause-ends g c = rw (← c.self.view_is) c.read.ensures.ends
