-- How turns of tasks end, one and many.
use Rattle.std.specs.Prelude.{◌≡◌, ◌≢◌, ◌≤◌, ◌+◌, ◌<◌, ℕ, Bool, true, false, List, [], ◌∷◌, None, Result, Ok, Err, length}
use Rattle.dataflow_model.specs.Machine.{Move, mover}
use Rattle.engine_model.specs.AllRules.{AllRules}
use Rattle.engine_model.specs.State.{State}
use Rattle.engine_model.specs.declared.fault.CoreFault.{CoreFault}
use Rattle.engine_model.specs.declared.fault.CoreFault.TheVariants.{NotRunning, ChannelBlocked, NotReady, Memory, Device}
use Rattle.engine_rounds.specs.Idle.{HasNothingIn, IsIdleIn, AreIdle}
use Rattle.engine_rounds.specs.Works.{Works, CanMove}
use Rattle.engine_rounds.specs.declared.ending.Drained.{Drained}
use Rattle.engine_rounds.specs.declared.ending.Drained.TheVariants.{AtRest, TurnsSpent}

-- whether a step was made
abbrev pub turned_as : Result Unit CoreFault → Result Bool CoreFault
turned_as (Ok u) = Ok true
turned_as (Err ChannelBlocked) = Ok false
turned_as (Err NotReady) = Ok false
turned_as (Err other) = Err other

module _ {R K S O : Type 0} (rules : AllRules R K S O) (old new : State O R K S) where
  -- Why calls that are made one after another stop: the job is down, memory was refused, or a device failed.
  abbrev pub Stops : CoreFault → Type 0
  Stops NotRunning = (old.held ≡ None) × (new ≡ old)
  Stops Memory = new.held ≢ None
  Stops Device = new.held ≡ None
  Stops other = ⊥

  -- these plain steps were made, and the job still runs
  abbrev pub Made : List Move → Type 0
  Made moves = Works rules moves old new × (new.held ≢ None)

  -- A task makes one plain step, or has none to make and nothing changes. A refused turn makes none.
  abbrev pub EndsTurn : ℕ → Result Bool CoreFault → Type 0
  EndsTurn task (Ok true) = (move : Move) × (mover move ≡ task) × Made (move ∷ [])
  EndsTurn task (Ok false) = IsIdleIn old task × (new ≡ old)
  EndsTurn task (Err fault) = Works rules [] old new × Stops fault

  -- It works the record at the head of an input, or there is none to work.
  abbrev pub EndsWorkAt : (task input : ℕ) → Result Bool CoreFault → Type 0
  EndsWorkAt task input (Ok true) = (move : Move) × (mover move ≡ task) × Made (move ∷ [])
  EndsWorkAt task input (Ok false) = HasNothingIn old task input × (new ≡ old)
  EndsWorkAt task input (Err fault) = Works rules [] old new × Stops fault

  -- A turn that makes a step is counted: so many are left before and after.
  abbrev pub EndsCounted : (task before after : ℕ) → Result Unit CoreFault → Type 0
  EndsCounted task before after (Ok u) =
      ((moves : List Move) × (length moves + after ≡ before) × Made moves) × (after ≡ before → IsIdleIn old task × (new ≡ old))
  EndsCounted task before after (Err fault) = Works rules [] old new × Stops fault × (after ≡ before)

  -- Each task has its turn, in the order of their numbers, while turns are left; so many are left afterwards. Where no task made a step, none has one.
  abbrev pub EndsRound : (before after : ℕ) → Result Bool CoreFault → Type 0
  EndsRound before after (Ok true) = (moves : List Move) × (length moves + after ≡ before) × (after < before) × Made moves
  EndsRound before after (Ok false) = AreIdle old × (new ≡ old) × (after ≡ before)
  EndsRound before after (Err fault) = (moves : List Move) × (length moves ≤ before) × Works rules moves old new × Stops fault

  -- Rounds end at rest, where no task has a step to make; or once so many steps were made, where a further one is possible.
  abbrev pub EndsRounds : ℕ → Result Drained CoreFault → Type 0
  EndsRounds turns (Ok AtRest) = (moves : List Move) × (length moves ≤ turns) × Made moves × AreIdle new
  EndsRounds turns (Ok TurnsSpent) = (moves : List Move) × (length moves ≡ turns) × Made moves × CanMove rules.lang new
  EndsRounds turns (Err fault) = (moves : List Move) × (length moves ≤ turns) × Works rules moves old new × Stops fault
