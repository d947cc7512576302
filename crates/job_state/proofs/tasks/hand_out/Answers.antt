use Rattle.std.proofs.Common.{arith}
use Rattle.job_state.proofs.Standings.{holdings_kept, copies_kept}
use Rattle.job_state.proofs.tasks.hand_out.Goals as goal

pub returns-then-place-tasks-clause-holdings : goal.returns-then-place-tasks-clause-holdings
returns-then-place-tasks-clause-holdings g c = holdings_kept c.args.tasks.now c.args.task c.index-tasks-place.result (omega arith) c.hand_out.new.self c.hand_out.ensures.holding

pub returns-then-place-tasks-clause-copies : goal.returns-then-place-tasks-clause-copies
returns-then-place-tasks-clause-copies g c = copies_kept c.args.tasks.now c.args.task c.index-tasks-place.result (omega arith) c.hand_out.new.self c.hand_out.ensures.copy
