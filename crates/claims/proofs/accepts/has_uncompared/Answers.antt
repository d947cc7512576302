use Rattle.std.proofs.Common.{refl}
use Rattle.claims.proofs.accepts.has_uncompared.Goals as goal

pub returns-in-Some : goal.returns-in-Some
returns-in-Some g c = λ entries held. rw c.in-Some.is (λ u. tt, λ u. refl)

pub returns-in-None : goal.returns-in-None
returns-in-None g c = λ entries held. rw c.in-None.is (c.has_states.ensures entries held)
