-- What a core holds, as data.
use Rattle.std.specs.Prelude.{ℕ, List, [], Result, Ok, Err}
use Rattle.engine_model.specs.State.{State}
use Rattle.engine_model.specs.declared.fault.CoreFault.{CoreFault}
use Rattle.dataflow_core.specs.declared.held.Claim.{Claim}

pub record CoreState (O R K S : Type 0) : Type 0 where
  pub engine : State O R K S
  -- the claims that are out
  pub claims : List Claim
  -- how many claims were made, over all attempts: the next one's serial
  pub serials : ℕ

-- a restart that makes an attempt drops all claims
abbrev pub claims_after : {T : Type 0} → Result T CoreFault → List Claim → List Claim
claims_after (Ok v) claims = []
claims_after (Err fault) claims = claims
