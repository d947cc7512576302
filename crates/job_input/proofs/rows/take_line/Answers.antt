use Rattle.std.proofs.Common.{◌∙◌, rules}
use Rattle.job_input.proofs.Putting.{puts_none, puts_line, at_end}
use Rattle.job_input.proofs.rows.take_line.Goals as goal

pub returns-in_err-put_line-clause-puts : goal.returns-in_err-put_line-clause-puts
returns-in_err-put_line-clause-puts g c =
    let none = puts_none c.args.partition c.args.log.now.rows in
    (none.0, c.in_err-put_line.ensures.err ∙ none.1)

pub returns-clause-puts : goal.returns-clause-puts
returns-clause-puts g c = puts_line _ _ _ _ c.in_ok-put_line.ensures.ok

pub returns-clause-end : goal.returns-clause-end
returns-clause-end g c = λ none. at_end _ _ c.in_ok-more.ensures.line (search rules)
