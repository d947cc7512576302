-- How each call ends, of the engine before and after.
use Rattle.std.specs.Prelude.{◌≡◌, ◌≢◌, ℕ, None, Option, Result, Err, OnOk, IfErr, List}
use Rattle.alignment.specs.declared.input.Effect.{Effect}
use Rattle.engine_model.specs.AllRules.{AllRules}
use Rattle.engine_model.specs.Calls.{EndsRead, EndsInject, EndsPersist, EndsPersistSome, EndsTrigger, EndsComplete}
use Rattle.engine_model.specs.Commits.{EndsCommit}
use Rattle.engine_model.specs.Language.{Language}
use Rattle.engine_model.specs.Restart.{EndsRestart}
use Rattle.engine_model.specs.State.{State}
use Rattle.engine_model.specs.declared.fault.CoreFault.{CoreFault}
use Rattle.engine_model.specs.declared.fault.CoreFault.TheVariants.{NotRunning}
use Rattle.engine_model.specs.declared.persisted.Persisted.{Persisted}
use Rattle.engine.specs.Running.{OnAttempt, OnStore, OnTransactions, OnDown}
use Rattle.claims.specs.Tasks.{EndsBarrier}
use Rattle.source_log.specs.Partitions as partitions
use Rattle.source_log.specs.declared.partitions.SourceFault.{SourceFault}
use Rattle.source_log.specs.declared.partitions.SourceFault.TheVariants.{Fault}
use Rattle.task_part.specs.declared.part.Part.{Part}

module _ {R K S O : Type 0} (old new : State O R K S) where
  abbrev pub Fails : Result Unit CoreFault → Type 0
  Fails result = OnOk result ((old.held ≢ None) × (new ≡ record old { held = None })) × IfErr result (λ fault. (fault ≡ NotRunning) × (old.held ≡ None) × (new ≡ old))

  abbrev pub Restarts : AllRules R K S O → Result (Option ℕ) CoreFault → Type 0
  Restarts rules result =
      OnDown old new (EndsRestart rules old.graph old.operators old.partitions old.stored old.ledger new.ledger) result

  abbrev pub Reads : Language R K S O → ℕ → Result Unit CoreFault → Type 0
  Reads lang task result = OnAttempt old new (λ h k. EndsRead old.graph task h k lang old.partitions) result

  abbrev pub TakesBarrier : ℕ → ℕ → Result Effect CoreFault → Type 0
  TakesBarrier task input result = OnTransactions old new (λ h k. EndsBarrier old.graph task input h k old.ledger new.ledger) result

  abbrev pub Injects : ℕ → Result Unit CoreFault → Type 0
  Injects task result = OnAttempt old new (λ h k. EndsInject old.graph task h k) result

  abbrev pub Triggers : Result ℕ CoreFault → Type 0
  Triggers result = OnStore old new (λ h k. EndsTrigger h k old.stored new.stored) result

  abbrev pub Persists : (Part R K S → List ℕ) → ℕ → Result Unit CoreFault → Type 0
  Persists spelling task result = OnStore old new (λ h k. EndsPersist old.graph task h k old.stored new.stored spelling) result

  abbrev pub PersistsSome : (Part R K S → List ℕ) → ℕ → Result Persisted CoreFault → Type 0
  PersistsSome spelling task result = OnStore old new (λ h k. EndsPersistSome old.graph task h k old.stored new.stored spelling) result

  abbrev pub Completes : Result ℕ CoreFault → Type 0
  Completes result = OnStore old new (λ h k. EndsComplete h k old.stored new.stored) result

  abbrev pub Commits : ℕ → Result Unit CoreFault → Type 0
  Commits sink result = OnTransactions old new (λ h k. EndsCommit old.graph sink h k old.ledger new.ledger) result

  abbrev pub Appends : ℕ → R → Result Unit SourceFault → Type 0
  Appends partition row result =
      partitions.Ends (old.partitions, old.faults) (new.partitions, new.faults) (partitions.append_refusal old.partitions partition) (partitions.appended old.partitions partition row) result
      × (result ≢ Err Fault → new.faults ≡ old.faults) × (new ≡ record old { partitions = new.partitions; faults = new.faults })
