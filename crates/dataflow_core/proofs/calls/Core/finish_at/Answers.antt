use Rattle.std.proofs.Common.{sym, ◌∙◌}
use Rattle.dataflow_core.proofs.Running.{finishes_job}
use Rattle.dataflow_core.proofs.calls.Core.finish_at.Goals as goal

pub returns-clause-ends : goal.returns-clause-ends
returns-clause-ends g c =
    finishes_job _ _ _ _ _ _ _ c.in-Some.job (sym c.take.ensures.job ∙ c.in-Some.is)
    (c.run.result.worked, c.run.ensures.carries, (c.finish.result, c.accepted.ensures, (rw (← c.run.ensures.attempt, ← c.run.ensures.serial) c.finish.ensures.ends, c.finish.ensures.counted)), c.in-Some.ensures.some)
