use Rattle.std.proofs.Common.{◌≡◌, OnOk, length, rules, subst}
use Rattle.std.specs.Io.KnownBytes.{prepend_known}
use Rattle.line_parts.specs.Lines.{in_runs}
use Rattle.job_input.specs.Lines.{PutsFront}
use Rattle.job_input.proofs.Putting.{puts_more}
use Rattle.job_input.proofs.Texts.{last_put}
use Rattle.job_input.proofs.rounds.put_round.Goals as goal
use Rattle.source_log.specs.Partitions.{appended_all}

pub returns-in_err-put_lines-in-Ok-false-clause-puts : goal.returns-in_err-put_lines-in-Ok-false-clause-puts
returns-in_err-put_lines-in-Ok-false-clause-puts g c = puts_more _ _ _ _ c.put_ahead.ensures.puts c.put_lines.ensures.puts

pub returns-in_err-put_whole_lines-in-Err-clause-puts : goal.returns-in_err-put_whole_lines-in-Err-clause-puts
returns-in_err-put_whole_lines-in-Err-clause-puts g c = puts_more _ _ _ _ c.put_ahead.ensures.puts c.put_whole_lines.ensures.puts

pub returns-in_ok-put_lines-in-Ok-false-clause-puts : goal.returns-in_ok-put_lines-in-Ok-false-clause-puts
returns-in_ok-put_lines-in-Ok-false-clause-puts g c = puts_more _ _ _ _ c.put_ahead.ensures.puts c.put_lines.ensures.puts

pub returns-in_ok-put_whole_lines-in-Err-clause-puts : goal.returns-in_ok-put_whole_lines-in-Err-clause-puts
returns-in_ok-put_whole_lines-in-Err-clause-puts g c = puts_more _ _ _ _ c.put_ahead.ensures.puts c.put_whole_lines.ensures.puts

pub returns-in_ok-put_lines-in-Ok-false-clause-front : goal.returns-in_ok-put_lines-in-Ok-false-clause-front
returns-in_ok-put_lines-in-Ok-false-clause-front g c =
    let end = c.in_ok-put_ahead.ensures.end (search rules) in
    let p = c.args.partition in
    let old = appended_all c.args.log.now.rows p (in_runs c.args.pending.now.runs.items) in
    let mid = appended_all c.put_ahead.new.log.rows p (in_runs c.put_ahead.new.pending.runs.items) in
    let new = appended_all c.put_lines.new.log.rows p (in_runs c.put_lines.new.pending.runs.items) in
    let start = c.args.buffer.now.text.items in
    let text = c.put_ahead.new.buffer.text.items in
    let before = g.F.Read.remaining c.args.file.now in
    let after = g.F.Read.remaining c.put_ahead.new.file in
    let front : PutsFront p (prepend_known start before) (prepend_known text after) old mid = subst (λ r. OnOk r (PutsFront p (prepend_known start before) (prepend_known text after) old mid)) c.in-Ok-false.is c.in_ok-put_ahead.ensures.front in
    let whole : c.len-count.result ≡ length text = search rules in
    last_put p before after start text _ old mid new end front c.len-count.result whole c.in_ok-put_lines-in-Ok-false.ensures.text c.in_ok-put_lines-in-Ok-false.ensures.rest
