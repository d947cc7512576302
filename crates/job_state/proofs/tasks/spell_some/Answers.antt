use Rattle.std.proofs.Common.{arith}
use Rattle.job_state.proofs.Standings.{holdings_kept, copies_kept}
use Rattle.job_state.proofs.tasks.spell_some.Goals as goal

pub returns-then-place-tasks-clause-holdings : goal.returns-then-place-tasks-clause-holdings
returns-then-place-tasks-clause-holdings g c = holdings_kept c.args.tasks.now c.args.task c.index-tasks-place.result (omega arith) c.spell_some.new.self c.spell_some.ensures.holding

pub returns-then-place-tasks-clause-copies : goal.returns-then-place-tasks-clause-copies
returns-then-place-tasks-clause-copies g c = copies_kept c.args.tasks.now c.args.task c.index-tasks-place.result (omega arith) c.spell_some.new.self c.spell_some.ensures.copy
