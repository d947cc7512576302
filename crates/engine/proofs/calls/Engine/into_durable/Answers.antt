use Rattle.engine.proofs.Raising.{hands_out_legal}
use Rattle.engine.proofs.calls.Engine.into_durable.Goals as goal

pub returns-clause-legal : goal.returns-clause-legal
returns-clause-legal g c = rw (← c.self.view_is) (λ sound. hands_out_legal _ _ c.self.invariant sound)
