use Rattle.std.proofs.Common.{inl, refl}
use Rattle.absflow_run.proofs.answer.work.Goals as goal

pub returns-in-Ok-finish : goal.returns-in-Ok-finish
returns-in-Ok-finish g c =
    inl
    (c.claim.new.self, c.in-Ok.job, c.run.result.worked, c.in-Ok.ensures.ok, c.run.ensures.carries, (c.finish.result, rw c.in-Ok-finish.is refl, rw (← c.run.ensures.attempt, ← c.run.ensures.serial) c.finish.ensures.ends))

pub returns-in-Err-finish : goal.returns-in-Err-finish
returns-in-Err-finish g c =
    inl
    (c.claim.new.self, c.in-Ok.job, c.run.result.worked, c.in-Ok.ensures.ok, c.run.ensures.carries, (c.finish.result, rw c.in-Err-finish.is refl, rw (← c.run.ensures.attempt, ← c.run.ensures.serial) c.finish.ensures.ends))
