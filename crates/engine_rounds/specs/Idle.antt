-- When a task has no plain step to make.
use Rattle.std.specs.Prelude.{◌≡◌, ◌⊎◌, ◌≤◌, ◌<◌, ℕ, List, Some, MatchOption, length, slice_get}
use Rattle.job_graph.specs.Expanded.{Expanded}
use Rattle.job_graph.specs.declared.role.Role.TheVariants as role
use Rattle.job_state.specs.Held.{Held}
use Rattle.job_state.specs.declared.holding.Holding.TheVariants as holds
use Rattle.source_log.specs.Partitions.{records_at}
use Rattle.claims.specs.Due.{WorksFrom}
use Rattle.engine_model.specs.Calls.{IsBlocked, NoRecord, HasNext}
use Rattle.engine_model.specs.State.{State}
use Rattle.engine.specs.Readers.{HasHead}

module _ {R K S : Type 0} (graph : Expanded) (h : Held R K S) where
  -- the input is blocked, or no record stands first in it
  abbrev pub HasNothing : (task input : ℕ) → Type 0
  HasNothing task input = (channel : ℕ) × WorksFrom graph task input channel × (IsBlocked task input h ⊎ NoRecord h channel)

  -- an input of an operator or of a sink has a record
  abbrev pub HasInput : ℕ → Type 0
  HasInput task = (input channel : ℕ) × WorksFrom graph task input channel × HasHead h channel

module _ {R K S : Type 0} (graph : Expanded) (partitions : List (List R)) (h : Held R K S) where
  -- A source has read its partition to the end; each input of another task is blocked, or no record stands first in it.
  pub record IsIdle (task : ℕ) : Type 0 where
    pub source : (partition offset : ℕ) → slice_get graph.tasks task ≡ Some (role.Source partition) → slice_get h.tasks task ≡ Some (holds.Source offset) → length (records_at partitions partition) ≤ offset
    pub inputs : (input channel : ℕ) → WorksFrom graph task input channel → IsBlocked task input h ⊎ NoRecord h channel

  -- a source has a record left to send, or another task one to take
  abbrev pub HasStep : ℕ → Type 0
  HasStep task = HasNext graph task h h partitions ⊎ HasInput graph h task

module _ {R K S O : Type 0} (s : State O R K S) where
  -- so of a task of a running job
  abbrev pub IsIdleIn : ℕ → Type 0
  IsIdleIn task = MatchOption s.held ⊥ (λ h. IsIdle s.graph s.partitions h task)

  abbrev pub HasStepIn : ℕ → Type 0
  HasStepIn task = MatchOption s.held ⊥ (λ h. HasStep s.graph s.partitions h task)

  abbrev pub HasNothingIn : (task input : ℕ) → Type 0
  HasNothingIn task input = MatchOption s.held ⊥ (λ h. HasNothing s.graph h task input)

  -- the job runs, and no task has a step to make
  abbrev pub AreIdle : Type 0
  AreIdle = (task : ℕ) → task < length s.graph.tasks → IsIdleIn task
