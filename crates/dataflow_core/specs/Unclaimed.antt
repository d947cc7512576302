-- How the calls end that make many steps, which want a job that runs, and no claim out.
use Rattle.std.specs.Prelude.{◌≡◌, ◌≢◌, ◌⊎◌, ℕ, [], Result, Err, MatchOption}
use Rattle.engine_model.specs.AllRules.{AllRules}
use Rattle.engine_model.specs.declared.fault.CoreFault.{CoreFault}
use Rattle.engine_model.specs.declared.fault.CoreFault.TheVariants.{NotRunning, Busy}
use Rattle.engine_rounds.specs.declared.ending.Drained.{Drained}
use Rattle.engine_settling.specs.Settled.{EndsSettle, EndsDrain}
use Rattle.dataflow_core.specs.CoreState.{CoreState}

module _ {R K S O : Type 0} (old new : CoreState O R K S) where
  abbrev pub Unclaimed : {T : Type 0} → (Result T CoreFault → Type 0) → Result T CoreFault → Type 0
  Unclaimed Ends result =
      MatchOption old.engine.held ((result ≡ Err NotRunning) × (new ≡ old)) (λ h.
      ((old.claims ≢ []) × (result ≡ Err Busy) × (new ≡ old)) ⊎ ((old.claims ≡ []) × Ends result))

  abbrev pub Settles : AllRules R K S O → Result Unit CoreFault → Type 0
  Settles rules = Unclaimed (EndsSettle rules old.engine new.engine)

  abbrev pub Drains : AllRules R K S O → (turns : ℕ) → Result Drained CoreFault → Type 0
  Drains rules turns = Unclaimed (EndsDrain rules old.engine new.engine turns)
