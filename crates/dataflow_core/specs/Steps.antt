-- What each call does to the engine.
use Rattle.std.specs.Prelude.{◌≡◌, ◌≢◌, ℕ, Option, Some, Result, Err, MatchOption, IfOk, slice_get}
use Rattle.commit_sink.specs.Ledger.{committed_rows}
use Rattle.dataflow_model.specs.Graph.{Begins}
use Rattle.job_graph.specs.declared.role.Role.TheVariants as role
use Rattle.engine_model.specs.AllRules.{AllRules}
use Rattle.engine_model.specs.Goes.{Goes}
use Rattle.engine_model.specs.RestartLaws.{GoesOnFromCut}
use Rattle.engine_model.specs.Sound.{IsSound}
use Rattle.engine_model.specs.State.{State}
use Rattle.engine_model.specs.declared.fault.CoreFault.{CoreFault}
use Rattle.engine_model.specs.declared.fault.CoreFault.TheVariants.{BadSnapshot}
use Rattle.engine.specs.Running.{IsSameJob}

module _ {R K S O : Type 0} (rules : AllRules R K S O) (old new : State O R K S) where
  -- It is steps of the model's engine, leaves a sound engine sound and the job as it was, and withdraws no committed row.
  pub record IsStep : Type 0 where
    pub goes : Goes rules.lang old new
    pub sound : IsSound rules old → IsSound rules new
    pub same : IsSameJob old new
    pub begins : (task subtask : ℕ) → slice_get old.graph.tasks task ≡ Some (role.Sink subtask) → Begins (committed_rows old.ledger subtask) (committed_rows new.ledger subtask)

  -- So is a restart, of a sound engine; it goes on from the cut that the last complete checkpoint names, and is never refused for what the devices hold.
  pub record IsRestart (result : Result (Option ℕ) CoreFault) : Type 0 where
    pub goes : IsSound rules old → Goes rules.lang old new
    pub sound : IsSound rules old → IsSound rules new
    pub same : IsSameJob old new
    pub begins : (subtask : ℕ) → Begins (committed_rows old.ledger subtask) (committed_rows new.ledger subtask)
    pub cut : IsSound rules old → IfOk result (λ last. MatchOption new.held ⊥ (λ k. GoesOnFromCut rules.lang new last k))
    pub good : IsSound rules old → result ≢ Err BadSnapshot

  -- Whatever calls are made: the job stays, a sound engine stays sound, and no committed row is withdrawn.
  pub record Preserves : Type 0 where
    pub same : IsSameJob old new
    pub sound : IsSound rules old → IsSound rules new
    pub begins : (task subtask : ℕ) → slice_get old.graph.tasks task ≡ Some (role.Sink subtask) → Begins (committed_rows old.ledger subtask) (committed_rows new.ledger subtask)
