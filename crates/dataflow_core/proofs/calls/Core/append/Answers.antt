use Rattle.dataflow_core.proofs.calls.Core.append.Goals as goal

pub returns-clause-ends : goal.returns-clause-ends
returns-clause-ends g c = rw (← c.self.view_is) (c.append.ensures.ends, c.append.ensures.told, c.append.ensures.same)
