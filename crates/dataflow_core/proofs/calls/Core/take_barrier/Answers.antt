use Rattle.std.proofs.Common.{◌≡◌, Bool, true, false, inr, subst}
use Rattle.std.specs.Prelude.{IsTrue}
use Rattle.dataflow_core.proofs.calls.Core.take_barrier.Goals as goal

pub returns-clause-ends : goal.returns-clause-ends
returns-clause-ends g c =
    inr (λ held. (let told : ◌≡◌ {A = Bool} false true = subst IsTrue c.if-is_held_up.false (c.is_held_up.ensures.1 held) in cc), rw (← c.self.view_is) c.take_barrier.ensures.ends)
