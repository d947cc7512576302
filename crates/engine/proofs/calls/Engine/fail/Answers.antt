use Rattle.engine_model.proofs.Calls.Fails.{keeps_fail}
use Rattle.engine_model.proofs.Sounds.{keeps_as_fresh, sound_as_fresh}
use Rattle.engine.proofs.calls.Engine.fail.Goals as goal

pub invariant_of-self : goal.invariant_of-self
invariant_of-self g c = (keeps_fail _ _ c.self.invariant _).0

pub returns-clause-goes : goal.returns-clause-goes
returns-clause-goes g c = rw (← c.self.view_is) (keeps_fail _ _ c.self.invariant 0).1

pub returns-clause-sound : goal.returns-clause-sound
returns-clause-sound g c = rw (← c.self.view_is) (λ sound. sound_as_fresh _ _ (keeps_fail _ _ (keeps_as_fresh _ _ c.self.invariant sound) _).0)
