use Rattle.dataflow_core.proofs.calls.Core.inject.Goals as goal

pub returns-clause-ends : goal.returns-clause-ends
returns-clause-ends g c = rw (← c.self.view_is) c.inject.ensures.ends
