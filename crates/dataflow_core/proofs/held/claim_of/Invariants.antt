use Rattle.std.proofs.Common.{◌≡◌, ◌≢◌, ◌<◌, ℕ, Some, slice_get}
use Rattle.dataflow_core.specs.declared.held.Claim.{Claim}
use Rattle.dataflow_core.proofs.held.claim_of.Given as goal

-- none so far has the serial
abbrev pub invariant-loop-at : goal.invariant-loop-at
invariant-loop-at l = (k : ℕ) (claim : Claim) → k < l.at → slice_get l.claims k ≡ Some claim → claim.serial ≢ l.serial
