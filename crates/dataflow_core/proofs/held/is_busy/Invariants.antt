use Rattle.std.proofs.Common.{◌≡◌, ◌≢◌, ◌<◌, ℕ, Some, slice_get}
use Rattle.dataflow_core.specs.declared.held.Claim.{Claim}
use Rattle.dataflow_core.proofs.held.is_busy.Given as goal

-- none so far is the task's
abbrev pub invariant-loop-claim : goal.invariant-loop-claim
invariant-loop-claim l = (k : ℕ) (claim : Claim) → k < l.claim-index → slice_get l.claims k ≡ Some claim → claim.task ≢ l.task
