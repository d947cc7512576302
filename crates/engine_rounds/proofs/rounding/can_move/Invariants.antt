use Rattle.std.proofs.Common.{◌<◌, ℕ}
use Rattle.engine_rounds.specs.Idle.{IsIdleIn}
use Rattle.engine_rounds.proofs.rounding.can_move.Given as goal

-- no task so far has a step to make
abbrev pub invariant-loop-task : goal.invariant-loop-task
invariant-loop-task g l = (t : ℕ) → t < l.task → IsIdleIn l.engine t
