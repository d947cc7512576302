use Rattle.std.proofs.Common.{refl}
use Rattle.engine_model.proofs.Calls.Injects.{keeps_inject}
use Rattle.engine_plain.proofs.PlainCopies.{plain_inject}
use Rattle.engine_model.proofs.Sounds.{keeps_as_fresh, sound_as_fresh}
use Rattle.engine.proofs.Counting.{inject_counted}
use Rattle.engine.proofs.calls.Engine.inject.Goals as goal

pub invariant_of-self-2 : goal.invariant_of-self-2
invariant_of-self-2 g c =
    rw c.leave.ensures.left
    (keeps_inject _ _ c.in-Some.attempt c.inject-outcome.new.attempt _ c.args.task c.self.invariant c.in-Some.is c.inject-outcome.result c.inject-outcome.ensures).0

pub returns-clause-goes : goal.returns-clause-goes
returns-clause-goes g c =
    rw (← c.self.view_is, c.leave.ensures.left)
    (keeps_inject _ _ c.in-Some.attempt c.inject-outcome.new.attempt 0 c.args.task c.self.invariant c.in-Some.is c.inject-outcome.result c.inject-outcome.ensures).1

pub returns-clause-stays : goal.returns-clause-stays
returns-clause-stays g c =
    rw (← c.self.view_is, c.leave.ensures.left)
    (plain_inject _ _ c.in-Some.attempt c.inject-outcome.new.attempt 0 c.args.task c.self.invariant c.in-Some.is c.inject-outcome.result c.inject-outcome.ensures)

pub returns-clause-ends : goal.returns-clause-ends
returns-clause-ends g c =
    rw (← c.self.view_is, c.in-Some.is, c.leave.ensures.left, c.leave.ensures.answer)
    (c.inject-outcome.new.attempt, c.inject-outcome.ensures, refl)

pub returns-clause-sound : goal.returns-clause-sound
returns-clause-sound g c =
    rw (← c.self.view_is, c.leave.ensures.left)
    (λ sound. sound_as_fresh _ _ (keeps_inject _ _ c.in-Some.attempt c.inject-outcome.new.attempt _ c.args.task (keeps_as_fresh _ _ c.self.invariant sound) c.in-Some.is c.inject-outcome.result c.inject-outcome.ensures).0)

pub returns-clause-counted : goal.returns-clause-counted
returns-clause-counted g c =
    rw (← c.self.view_is, c.leave.ensures.answer)
    (inject_counted c.self.inside.graph c.args.task c.in-Some.attempt c.inject-outcome.new.attempt _ 0 c.inject-outcome.result c.inject-outcome.ensures)
