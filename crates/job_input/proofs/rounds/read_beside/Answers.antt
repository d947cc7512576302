use Rattle.std.proofs.Common.{◌≡◌, length, rules}
use Rattle.job_input.proofs.Putting.{puts_none}
use Rattle.job_input.proofs.Runs.{none_to_put}
use Rattle.job_input.proofs.rounds.read_beside.Goals as goal

pub returns-then-is_empty-clause-puts : goal.returns-then-is_empty-clause-puts
returns-then-is_empty-clause-puts g c = puts_none c.args.partition c.args.log.now.rows

pub returns-then-is_empty-clause-rows : goal.returns-then-is_empty-clause-rows
returns-then-is_empty-clause-rows g c =
    let none : length c.args.runs.items ≡ 0 = search rules in
    none_to_put c.args.partition c.args.log.now.rows c.args.runs.items none
