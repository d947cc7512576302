use Rattle.dataflow_core.proofs.calls.Core.persist_some.Goals as goal

pub returns-clause-ends : goal.returns-clause-ends
returns-clause-ends g c = rw (← c.self.view_is) c.persist_some.ensures.ends
