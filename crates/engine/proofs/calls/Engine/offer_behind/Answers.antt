use Rattle.engine.proofs.calls.Engine.offer_behind.Goals as goal

pub returns : goal.returns
returns g c = rw (← c.self.view_is, c.in-Some.is) c.offer_behind.ensures
