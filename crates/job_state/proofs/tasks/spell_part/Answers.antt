use Rattle.job_state.proofs.Standings.{holdings_kept, copies_kept}
use Rattle.job_state.proofs.tasks.spell_part.Goals as goal

pub returns-clause-holdings : goal.returns-clause-holdings
returns-clause-holdings g c = holdings_kept c.args.tasks.now c.args.task c.index-tasks-task.result c.requires c.spell_part.new.self c.spell_part.ensures.holding

pub returns-clause-copies : goal.returns-clause-copies
returns-clause-copies g c = copies_kept c.args.tasks.now c.args.task c.index-tasks-task.result c.requires c.spell_part.new.self c.spell_part.ensures.copy
