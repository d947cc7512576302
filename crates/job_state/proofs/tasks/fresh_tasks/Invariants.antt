use Rattle.std.proofs.Common.{◌≡◌, None, length, replicate}
use Rattle.job_state.specs.Inside.{holdings_of, copies_of}
use Rattle.job_state.proofs.tasks.fresh_tasks.Given as goal

-- the tasks so far hold what was met so far, and have not copied
abbrev pub invariant-loop-holding : goal.invariant-loop-holding
invariant-loop-holding g l = record { holdings : holdings_of l.tasks.items ≡ l.yielded; copies : copies_of l.tasks.items ≡ replicate (length l.yielded) None }
