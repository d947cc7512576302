use Rattle.std.proofs.Common.{ap}
use Rattle.line_parts.specs.Lines.{in_runs}
use Rattle.job_input.proofs.Putting.{puts_more}
use Rattle.job_input.proofs.Texts.{then_put}
use Rattle.job_input.proofs.rounds.read_rows_by.Goals as goal

pub returns-in_err-put_pending-clause-puts : goal.returns-in_err-put_pending-clause-puts
returns-in_err-put_pending-clause-puts g c = puts_more _ _ _ _ c.put_rounds-read.ensures.puts c.put_pending.ensures.puts

pub returns-clause-puts : goal.returns-clause-puts
returns-clause-puts g c = puts_more _ _ _ _ c.put_rounds-read.ensures.puts c.put_pending.ensures.puts

pub returns-clause-text : goal.returns-clause-text
returns-clause-text g c =
    then_put c.args.partition c.put_rounds-read.result _ c.args.log.now.rows c.put_rounds-read.new.log.rows c.put_pending.new.log.rows
    _ (in_runs c.put_rounds-read.new.pending.runs.items) (ap in_runs c.new-2.ensures.items) c.in_ok-put_pending.ensures.rows c.put_rounds-read.ensures.text
