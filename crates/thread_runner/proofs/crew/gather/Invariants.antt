use Rattle.std.proofs.Common.{◌≡◌, ◌+◌, vec_len}
use Rattle.thread_runner.proofs.crew.gather.Given as goal

abbrev pub invariant-loop-share : goal.invariant-loop-share
invariant-loop-share g l = (l.all.parts + vec_len l.crew ≡ l.fn.all.parts + vec_len l.fn.crew) × (l.all.amount ≡ l.fn.all.amount + l.sum)

abbrev pub decreases-loop-share : goal.decreases-loop-share
decreases-loop-share g l = goal.left-loop-share g l
