-- What a station keeps, whatever call is made.
use Rattle.std.proofs.Common.{◌≡◌, ℕ, ◌+◌, ◌≤◌, ◌++◌, ◌∷◌, [], List, Option, Result, Ok, Err, IfOk, IfErr, length, sym, subst, arith}
use Rattle.std.proofs.lemmas.List.{length-append}
use Rattle.engine_model.specs.AllRules.{AllRules}
use Rattle.engine_model.specs.declared.fault.CoreFault.{CoreFault}
use Rattle.counted_finishes.specs.Counting.{Within}
use Rattle.dataflow_core.specs.CoreState.{CoreState, claims_after}
use Rattle.dataflow_core.specs.Steps.{Preserves}
use Rattle.dataflow_core.specs.declared.held.Claim.{Claim}
use Rattle.output_readers.specs.Seeing.{Output}
use Rattle.row_publishing.specs.Showing.{Shows}
use Rattle.row_publishing.proofs.Shown.{shows_kept}

-- a restart drops the claims, or leaves them
fewer : {T : Type 0} (result : Result T CoreFault) (claims : List Claim) → length (claims_after result claims) ≤ length claims
fewer (Ok v) claims = omega arith
fewer (Err f) claims = omega arith

module _ {R K S O : Type 0} where
  -- a call that leaves the claims leaves a station what it keeps
  pub call_kept : (rules : AllRules R K S O) (total : ℕ) (output : Option Output) (old new : CoreState O R K S) → new ≡ record old { engine = new.engine }
      → Preserves rules old.engine new.engine → Within total old × Shows output old.engine → Within total new × Shows output new.engine
  call_kept rules total output old new same kept was =
      (subst (λ (c : CoreState O R K S). Within total c) (sym same) was.0, shows_kept rules output old.engine new.engine kept was.1)

  -- so does a restart
  pub restart_kept : {T : Type 0} (rules : AllRules R K S O) (total : ℕ) (output : Option Output) (result : Result T CoreFault) (old new : CoreState O R K S)
      → new ≡ record old { engine = new.engine; claims = claims_after result old.claims } → Preserves rules old.engine new.engine
      → Within total old × Shows output old.engine → Within total new × Shows output new.engine
  restart_kept rules total output result old new same kept was =
      (let less = fewer result old.claims in subst (λ (c : CoreState O R K S). Within total c) (sym same) (omega (arith, less, was.0)), shows_kept rules output old.engine new.engine kept was.1)

  -- so does a claim, and one that is refused
  pub claim_kept : {T : Type 0} (total : ℕ) (output : Option Output) (old new : CoreState O R K S) (claim : Claim) (result : Result T CoreFault) {P : T → Type 0} {Q : CoreFault → Type 0} → IfOk result P → IfErr result Q
      → ((job : T) → P job → new ≡ record old { claims = old.claims ++ claim ∷ []; serials = old.serials + 1 }) → ((fault : CoreFault) → Q fault → new ≡ old)
      → Within total old × Shows output old.engine → Within total new × Shows output new.engine
  claim_kept total output old new claim (Ok job) ok err claims same was =
      let more = length-append old.claims (claim ∷ []) in
      subst (λ (c : CoreState O R K S). Within total c × Shows output c.engine) (sym (claims job ok)) (omega (arith, more, was.0), was.1)
  claim_kept total output old new claim (Err fault) ok err claims same was =
      subst (λ (c : CoreState O R K S). Within total c × Shows output c.engine) (sym (same fault err)) was
