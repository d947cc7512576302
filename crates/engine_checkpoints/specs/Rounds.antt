-- How one round of a commit ends.
use Rattle.std.specs.Prelude.{◌≡◌, ℕ, Bool, true, false, Result, Ok, Err}
use Rattle.commit_sink.specs.Ledger.{Ledger}
use Rattle.job_state.specs.Held.{Held}
use Rattle.engine_model.specs.Commits.{CommitsOne, FailsToCommit, NoneIsNext}
use Rattle.engine_model.specs.declared.fault.CoreFault.{CoreFault}
use Rattle.engine_model.specs.declared.fault.CoreFault.TheVariants.{CommitFault}

-- a transaction was committed, or there was none to commit, or the device failed
abbrev pub EndsRound : {R K S : Type 0} → ℕ → Held R K S → Held R K S → Ledger → Ledger → Result Bool CoreFault → Type 0
EndsRound task h k old new (Ok true) = CommitsOne task h old k new
EndsRound task h k old new (Ok false) = NoneIsNext task h × (k ≡ h) × (new ≡ old)
EndsRound task h k old new (Err CommitFault) = FailsToCommit task h old k new
EndsRound task h k old new (Err other) = ⊥
