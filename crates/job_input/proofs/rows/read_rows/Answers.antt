use Rattle.std.proofs.Common.{rules}
use Rattle.job_input.proofs.Putting.{puts_more, still_behind, all_put}
use Rattle.job_input.proofs.rows.read_rows.Goals as goal

pub returns-in-Ok-false-clause-puts : goal.returns-in-Ok-false-clause-puts
returns-in-Ok-false-clause-puts g c = puts_more _ _ _ _ c.loop-number.invariant.0 c.take_line.ensures.puts

pub returns-in-Ok-false-clause-text : goal.returns-in-Ok-false-clause-text
returns-in-Ok-false-clause-text g c =
    let step = c.in-Ok-false.ensures in
    all_put _ _ _ _ _ _ c.loop-number.invariant.1 step.line (step.end (search rules))

pub returns-in-Err-clause-puts : goal.returns-in-Err-clause-puts
returns-in-Err-clause-puts g c = puts_more _ _ _ _ c.loop-number.invariant.0 c.take_line.ensures.puts

pub loop-number-preserved : goal.loop-number-preserved
loop-number-preserved g c =
    let step = c.in-Ok-true.ensures in
    (puts_more _ _ _ _ c.loop-number.invariant.0 c.take_line.ensures.puts, still_behind _ _ _ _ _ _ _ c.loop-number.invariant.1 step.line step.rest)
