use Rattle.dataflow_core.proofs.calls.Core.fail.Goals as goal

pub returns-clause-ends : goal.returns-clause-ends
returns-clause-ends g c = rw (← c.self.view_is) (c.fail.ensures.ok, c.fail.ensures.err)
