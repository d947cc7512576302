use Rattle.std.proofs.Common.{◌≡◌, None, length, take, replicate}
use Rattle.job_state.specs.Inside.{holdings_of, copies_of}
use Rattle.job_state.proofs.tasks.clear.Given as goal

-- the tasks met so far have not copied
abbrev pub invariant-loop-task : goal.invariant-loop-task
invariant-loop-task g l = record {
  holdings : holdings_of l.task-items ≡ holdings_of l.fn.tasks;
  cleared : take l.task-index (copies_of l.task-items) ≡ replicate l.task-index None;
  same_length : length l.task-items ≡ length l.fn.tasks;
}
