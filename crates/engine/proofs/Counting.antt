-- A fault is counted exactly where it is told.
use Rattle.std.proofs.Common.{◌≡◌, ◌≢◌, ◌<◌, Option, Some, None, Result, Ok, Err, slice_get, ℕ, List, refl, subst}
use Rattle.alignment.specs.declared.input.Effect.{Effect}
use Rattle.commit_sink.specs.Ledger.{Ledger}
use Rattle.job_graph.specs.Expanded.{Expanded}
use Rattle.job_graph.specs.declared.role.Role.{Role}
use Rattle.job_graph.specs.declared.role.Role.TheVariants as role
use Rattle.job_state.specs.Held.{Held}
use Rattle.snapshot_store.specs.Store.{Stored}
use Rattle.task_part.specs.declared.part.Part.{Part}
use Rattle.engine_model.specs.AllRules.{AllRules}
use Rattle.engine_model.specs.Calls.{input_at, EndsRead, EndsInject, EndsTrigger, EndsPersist, EndsPersistSome, EndsComplete}
use Rattle.engine_model.specs.Commits.{EndsCommit}
use Rattle.engine_model.specs.Language.{Language}
use Rattle.engine_model.specs.Restart.{EndsRestart}
use Rattle.engine_model.specs.declared.fault.CoreFault.{CoreFault}
use Rattle.engine_model.specs.declared.fault.CoreFault.TheVariants.{NotRunning, NoSuchTask, NotReady, ChannelBlocked, Busy, Stale, WrongResult, CheckpointPending, NoCheckpoint, NotAllAcked, Memory, Device, CommitFault, NumbersSpent, BadSnapshot}
use Rattle.engine_model.specs.declared.persisted.Persisted.{Persisted}
use Rattle.engine.specs.Running.{IsCounted, number_of}
use Rattle.claims.specs.Tasks.{NoSuchInput, WorksAs, TakesAs, EndsWork, EndsBarrier}

-- it is, if the count rises where either fault is told, and stays where neither is
counted_by : {T : Type 0} (result : Result T CoreFault) (a b : ℕ) → (result ≡ Err Device → a < b) → (result ≡ Err CommitFault → a < b) → (result ≢ Err Device → result ≢ Err CommitFault → b ≡ a) → IsCounted a b result
counted_by (Ok v) a b device commit stays = stays (λ e. cc) (λ e. cc)
counted_by (Err Device) a b device commit stays = device refl
counted_by (Err CommitFault) a b device commit stays = commit refl
counted_by (Err NotRunning) a b device commit stays = stays (λ e. cc) (λ e. cc)
counted_by (Err NoSuchTask) a b device commit stays = stays (λ e. cc) (λ e. cc)
counted_by (Err NotReady) a b device commit stays = stays (λ e. cc) (λ e. cc)
counted_by (Err ChannelBlocked) a b device commit stays = stays (λ e. cc) (λ e. cc)
counted_by (Err Busy) a b device commit stays = stays (λ e. cc) (λ e. cc)
counted_by (Err Stale) a b device commit stays = stays (λ e. cc) (λ e. cc)
counted_by (Err WrongResult) a b device commit stays = stays (λ e. cc) (λ e. cc)
counted_by (Err CheckpointPending) a b device commit stays = stays (λ e. cc) (λ e. cc)
counted_by (Err NoCheckpoint) a b device commit stays = stays (λ e. cc) (λ e. cc)
counted_by (Err NotAllAcked) a b device commit stays = stays (λ e. cc) (λ e. cc)
counted_by (Err Memory) a b device commit stays = stays (λ e. cc) (λ e. cc)
counted_by (Err NumbersSpent) a b device commit stays = stays (λ e. cc) (λ e. cc)
counted_by (Err BadSnapshot) a b device commit stays = stays (λ e. cc) (λ e. cc)

-- the number alone of what was made tells as much
pub number_counted : {A : Type 0} (made : Result (Option ℕ × A) CoreFault) (a b : ℕ) → IsCounted a b made → IsCounted a b (number_of made)
number_counted (Ok x) a b counted = counted
number_counted (Err fault) a b counted = counted

-- ---- a call that tells a device's failure tells none of a commit

module _ {T : Type 0} (Ends : Result T CoreFault → Type 0) (result : Result T CoreFault) (ends : Ends result) (a b : ℕ) where
  pub device_counted : (Ends (Err CommitFault) → ⊥) → (result ≡ Err Device → a < b) → (result ≢ Err Device → b ≡ a) → IsCounted a b result
  device_counted never rises stays = counted_by result a b rises (λ is. absurd (never (subst Ends is ends))) (λ device commit. stays device)

  pub commit_counted : (Ends (Err Device) → ⊥) → (result ≡ Err CommitFault → a < b) → (result ≢ Err CommitFault → b ≡ a) → IsCounted a b result
  commit_counted never rises stays = counted_by result a b (λ is. absurd (never (subst Ends is ends))) rises (λ device commit. stays commit)

-- there is no such input
apart : {T : Type 0} → ◌≡◌ {A = Result T CoreFault} (Err CommitFault) (Err NoSuchTask) → ⊥
apart e = cc

no_input : {R K S T : Type 0} (h k : Held R K S) (old new : Ledger) → NoSuchInput {T = T} h k old new (Err CommitFault) → ⊥
no_input h k old new none = apart none.0

module _ {R K S : Type 0} (graph : Expanded) (task : ℕ) (h k : Held R K S) (a b : ℕ) where
  module _ {O : Type 0} (lang : Language R K S O) (result : Result Unit CoreFault) where
    pub read_counted : (partitions : List (List R)) → EndsRead graph task h k lang partitions result → (result ≡ Err Device → a < b) → (result ≢ Err Device → b ≡ a) → IsCounted a b result
    read_counted partitions ends = device_counted (EndsRead graph task h k lang partitions) result ends a b (λ e. e)

    pub work_counted : (operators : List O) (input : ℕ) (old new : Ledger) → EndsWork lang graph operators task input h k old new result → (result ≡ Err Device → a < b) → (result ≢ Err Device → b ≡ a) → IsCounted a b result
    work_counted operators input old new ends = device_counted (EndsWork lang graph operators task input h k old new) result ends a b (by (slice_get graph.tasks task) (input_at graph task input))
      where
        by : (r : Option Role) (c : Option ℕ) → WorksAs graph task input h k old new lang operators (Err CommitFault) r c → ⊥
        by (Some (role.Operator number)) (Some channel) e = e.2
        by (Some (role.Operator number)) None e = no_input h k old new e
        by (Some (role.Sink subtask)) (Some channel) e = e
        by (Some (role.Sink subtask)) None e = no_input h k old new e
        by (Some (role.Source partition)) c e = no_input h k old new e
        by None c e = no_input h k old new e

  pub barrier_counted : (input : ℕ) (old new : Ledger) (result : Result Effect CoreFault) → EndsBarrier graph task input h k old new result → (result ≡ Err Device → a < b) → (result ≢ Err Device → b ≡ a) → IsCounted a b result
  barrier_counted input old new result ends = device_counted (EndsBarrier graph task input h k old new) result ends a b (by (slice_get graph.tasks task) (input_at graph task input))
    where
      by : (r : Option Role) (c : Option ℕ) → TakesAs graph task input h k old new (Err CommitFault) r c → ⊥
      by (Some (role.Operator number)) (Some channel) e = e.0
      by (Some (role.Operator number)) None e = no_input h k old new e
      by (Some (role.Sink subtask)) (Some channel) e = e
      by (Some (role.Sink subtask)) None e = no_input h k old new e
      by (Some (role.Source partition)) c e = no_input h k old new e
      by None c e = no_input h k old new e

  pub persist_counted : (old new : Stored) (spelling : Part R K S → List ℕ) (result : Result Unit CoreFault) → EndsPersist graph task h k old new spelling result → (result ≡ Err Device → a < b) → (result ≢ Err Device → b ≡ a) → IsCounted a b result
  persist_counted old new spelling result ends = device_counted (EndsPersist graph task h k old new spelling) result ends a b (λ e. e)

  pub persist_some_counted : (old new : Stored) (spelling : Part R K S → List ℕ) (result : Result Persisted CoreFault) → EndsPersistSome graph task h k old new spelling result → (result ≡ Err Device → a < b) → (result ≢ Err Device → b ≡ a) → IsCounted a b result
  persist_some_counted old new spelling result ends = device_counted (EndsPersistSome graph task h k old new spelling) result ends a b (λ e. e)

  pub commit_counts : (old new : Ledger) (result : Result Unit CoreFault) → EndsCommit graph task h k old new result → (result ≡ Err CommitFault → a < b) → (result ≢ Err CommitFault → b ≡ a) → IsCounted a b result
  commit_counts old new result ends = commit_counted (EndsCommit graph task h k old new) result ends a b (λ e. e)

  -- a call that uses no device tells no failure of one
  pub inject_counted : (result : Result Unit CoreFault) → EndsInject graph task h k result → IsCounted a a result
  inject_counted result ends = device_counted (EndsInject graph task h k) result ends a a (λ e. e) (λ is. absurd (subst (EndsInject graph task h k) is ends)) (λ other. refl)

module _ {R K S : Type 0} (h k : Held R K S) (old new : Stored) (a b : ℕ) (result : Result ℕ CoreFault) where
  pub trigger_counted : EndsTrigger h k old new result → (result ≡ Err Device → a < b) → (result ≢ Err Device → b ≡ a) → IsCounted a b result
  trigger_counted ends = device_counted (EndsTrigger h k old new) result ends a b (λ e. e)

  pub complete_counted : EndsComplete h k old new result → (result ≡ Err Device → a < b) → (result ≢ Err Device → b ≡ a) → IsCounted a b result
  complete_counted ends = device_counted (EndsComplete h k old new) result ends a b (λ e. e)

pub restart_counted : {R K S O : Type 0} (rules : AllRules R K S O) (graph : Expanded) (operators : List O) (partitions : List (List R)) (stored : Stored) (old new : Ledger) (a b : ℕ)
    (made : Result (Option ℕ × Held R K S) CoreFault) → EndsRestart rules graph operators partitions stored old new made → (made ≡ Err Device → a < b) → (made ≢ Err Device → b ≡ a) → IsCounted a b (number_of made)
restart_counted rules graph operators partitions stored old new a b made ends rises stays =
    number_counted made a b (device_counted (EndsRestart rules graph operators partitions stored old new) made ends a b (λ e. e) rises stays)
