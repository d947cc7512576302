use Rattle.std.proofs.Common.{◌≡◌, ◌<◌, ℕ}
use Rattle.engine_rounds.specs.Idle.{HasNothingIn}
use Rattle.engine_rounds.proofs.turns.work_turn.Given as goal

-- nothing has changed, and no input so far has a record that may be taken
abbrev pub invariant-loop-input : goal.invariant-loop-input
invariant-loop-input g l = record {
  same : l.engine ≡ l.fn.engine;
  nothing : (k : ℕ) → k < l.input → HasNothingIn l.fn.engine l.task k;
}
