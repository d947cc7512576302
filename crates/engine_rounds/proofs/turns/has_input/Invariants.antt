use Rattle.std.proofs.Common.{◌≡◌, ◌<◌, ℕ, Some, slice_get, MatchOption}
use Rattle.job_graph.specs.Expanded.{inputs_of}
use Rattle.engine.specs.Readers.{HasHead}
use Rattle.engine_rounds.proofs.turns.has_input.Given as goal

-- no input so far has a record
abbrev pub invariant-loop-channel : goal.invariant-loop-channel
invariant-loop-channel g l = (k number : ℕ) → k < l.channel-index → slice_get (inputs_of l.engine.graph l.task) k ≡ Some number → MatchOption l.engine.held ⊥ (λ h. HasHead h number) → ⊥
