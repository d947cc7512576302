use Rattle.engine.proofs.calls.Engine.offer_in.Goals as goal

pub returns : goal.returns
returns g c = rw (← c.self.view_is, c.in-Some.is, ← c.deref.ensures.value) c.offer.ensures
