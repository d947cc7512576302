use Rattle.std.proofs.Common.{inr, refl}
use Rattle.dataflow_core.proofs.calls.Core.append_copy.Goals as goal

pub returns-in-Ok-clause-ends : goal.returns-in-Ok-clause-ends
returns-in-Ok-clause-ends g c = rw (← c.in-Ok.ensures) (inr ((c.append.result, c.appended.ensures, c.append.ensures.ends), c.append.ensures.claims), refl)
