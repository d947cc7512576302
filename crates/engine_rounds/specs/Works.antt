-- What many calls on a running job do, one after another.
use Rattle.std.specs.Prelude.{◌≡◌, ℕ, List, None, Some, MatchOption, slice_get}
use Rattle.commit_sink.specs.Ledger.{committed_rows}
use Rattle.dataflow_model.specs.Graph.{Begins}
use Rattle.dataflow_model.specs.Machine.{Configuration, Move, Reaches, IsPossible, IsAtRest}
use Rattle.job_graph.specs.declared.role.Role.TheVariants as role
use Rattle.engine_model.specs.AllRules.{AllRules}
use Rattle.engine_model.specs.Goes.{Goes}
use Rattle.engine_model.specs.Language.{Language}
use Rattle.engine_model.specs.Sound.{IsSound}
use Rattle.engine_model.specs.State.{State}
use Rattle.engine_model.specs.View.{job_of}
use Rattle.engine_plain.specs.Plain.{StandsFor}

module _ {R K S O : Type 0} (lang : Language R K S O) where
  -- These plain steps, one after another, lead from what the old data stand for to what the new data stand for, if the job still runs.
  abbrev pub MovesBy : List Move → State O R K S → State O R K S → Type 0
  MovesBy moves old new =
      (at : Configuration R K S) → StandsFor lang old at → MatchOption new.held (Unit {0}) (λ h. (after : Configuration R K S) × Reaches (job_of lang old) moves at after × StandsFor lang new after)

  -- a plain step can be made from what the data stand for
  abbrev pub CanMove : State O R K S → Type 0
  CanMove s = (at : Configuration R K S) → StandsFor lang s at → (move : Move) × IsPossible (job_of lang s) move at

  -- no plain step can
  abbrev pub IsResting : State O R K S → Type 0
  IsResting s = (at : Configuration R K S) → StandsFor lang s at → IsAtRest (job_of lang s) at

-- Calls on a running job lead from one state to the other, by steps of the model's engine, and make these plain steps. They leave a sound engine
-- sound, and the job and its partitions as they were; they withdraw no committed row, and take no job up.
pub record Works {R K S O : Type 0} (rules : AllRules R K S O) (moves : List Move) (old new : State O R K S) : Type 0 where
  pub goes : Goes rules.lang old new
  pub sound : IsSound rules old → IsSound rules new
  pub same : new ≡ record old { stored = new.stored; ledger = new.ledger; held = new.held; faults = new.faults }
  pub down : old.held ≡ None → new.held ≡ None
  pub begins : (task subtask : ℕ) → slice_get old.graph.tasks task ≡ Some (role.Sink subtask) → Begins (committed_rows old.ledger subtask) (committed_rows new.ledger subtask)
  pub moves_by : MovesBy rules.lang moves old new
