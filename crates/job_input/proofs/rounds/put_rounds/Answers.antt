use Rattle.std.proofs.Common.{rules}
use Rattle.job_input.proofs.Putting.{puts_none, puts_more}
use Rattle.job_input.proofs.Texts.{none_yet, more_put, all_put}
use Rattle.job_input.proofs.rounds.put_rounds.Goals as goal

pub loop-init : goal.loop-init
loop-init g c = (puts_none _ _, c.requires, none_yet _ _ _ _ c.new-buffer.ensures.text)

pub returns-in-Ok-false-clause-puts : goal.returns-in-Ok-false-clause-puts
returns-in-Ok-false-clause-puts g c =
    let (rows, fit, front) = c.loop.invariant in
    puts_more _ _ _ _ rows c.put_round.ensures.puts

pub returns-in-Ok-false-clause-text : goal.returns-in-Ok-false-clause-text
returns-in-Ok-false-clause-text g c =
    let (rows, fit, front) = c.loop.invariant in
    all_put _ _ _ _ _ _ _ front c.in-Ok-false.ensures.front (c.in-Ok-false.ensures.end (search rules))

pub returns-in-Err-clause-puts : goal.returns-in-Err-clause-puts
returns-in-Err-clause-puts g c =
    let (rows, fit, front) = c.loop.invariant in
    puts_more _ _ _ _ rows c.put_round.ensures.puts

pub loop-preserved : goal.loop-preserved
loop-preserved g c =
    let (rows, fit, front) = c.loop.invariant in (
      puts_more _ _ _ _ rows c.put_round.ensures.puts,
      c.put_round.ensures.fits,
      more_put _ _ _ _ _ _ _ front c.in-Ok-true.ensures.front,
    )
