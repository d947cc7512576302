-- How an engine reads a source's records in turn.
use Rattle.std.specs.Prelude.{◌≡◌, ℕ, None, Result}
use Rattle.engine_model.specs.AllRules.{AllRules}
use Rattle.engine_model.specs.State.{State}
use Rattle.engine_model.specs.declared.fault.CoreFault.{CoreFault}
use Rattle.engine_moves.specs.Reading.{ReadsInTurn}
use Rattle.engine.specs.Running.{OnAttempt}

-- while the job runs, a source's records are read in turn, so many at most: so many are read
abbrev pub ReadsSome : {O R K S : Type 0} → AllRules R K S O → (old new : State O R K S) → (task most count : ℕ) → Result Unit CoreFault → Type 0
ReadsSome rules old new task most count result =
    OnAttempt old new (λ h k r. ReadsInTurn rules old.graph task old.partitions most h k count r) result × (old.held ≡ None → count ≡ 0)
