-- Checkpoints leave the plain configuration as it is.
use Rattle.std.proofs.Common.{◌≡◌, Some, Result, Ok, Err, ℕ, List, refl, ap}
use Rattle.job_state.specs.Held.{Held}
use Rattle.snapshot_store.specs.Store.{Stored}
use Rattle.task_part.specs.declared.part.Part.{Part}
use Rattle.engine_model.specs.Calls.{EndsTrigger, EndsPersist, EndsPersistSome, EndsComplete, left_by}
use Rattle.engine_model.specs.Language.{Language}
use Rattle.engine_model.specs.State.{State}
use Rattle.engine_model.specs.declared.fault.CoreFault.{CoreFault}
use Rattle.engine_model.specs.declared.fault.CoreFault.TheVariants.{NoSuchTask, NoCheckpoint, NotReady, NotAllAcked, CheckpointPending, NumbersSpent, Memory, Device}
use Rattle.engine_model.specs.declared.persisted.Persisted.{Persisted}
use Rattle.engine_model.specs.declared.persisted.Persisted.TheVariants.{More, Done}
use Rattle.engine_model.proofs.Calls.Goes.{after}
use Rattle.engine_plain.specs.Plain.{Stays}
use Rattle.engine_plain.proofs.Stands.{bare_of, same_ledger, stays_by}

module _ {R K S O : Type 0} (lang : Language R K S O) (s : State O R K S) (h k : Held R K S) (n : ℕ) (was : s.held ≡ Some h) (stored : Stored) where
  -- what a checkpoint changes is not in the plain configuration
  stored_stays : bare_of lang s k ≡ bare_of lang s h → Stays lang s (after s (Some k) stored s.ledger n)
  stored_stays same = stays_by lang s h was k stored s.ledger n same (same_ledger lang s s.ledger refl)

  pub plain_trigger : (result : Result ℕ CoreFault) → EndsTrigger h k s.stored stored result → Stays lang s (record s { held = left_by result (Some k); stored = stored; faults = n })
  plain_trigger (Ok number) ends = stored_stays (ap (bare_of lang s) ends.3)
  plain_trigger (Err CheckpointPending) ends = stored_stays (ap (bare_of lang s) ends.1)
  plain_trigger (Err NumbersSpent) ends = stored_stays (ap (bare_of lang s) ends.2)
  plain_trigger (Err Device) ends = λ at stands. tt
  plain_trigger (Err other) ends = absurd ends

  pub plain_persist : (task : ℕ) (spelling : Part R K S → List ℕ) (result : Result Unit CoreFault) → EndsPersist s.graph task h k s.stored stored spelling result → Stays lang s (record s { held = left_by result (Some k); stored = stored; faults = n })
  plain_persist task spelling (Ok u) ends = stored_stays (ap (bare_of lang s) ends.4)
  plain_persist task spelling (Err NoSuchTask) ends = stored_stays (ap (bare_of lang s) ends.1)
  plain_persist task spelling (Err NoCheckpoint) ends = stored_stays (ap (bare_of lang s) ends.2)
  plain_persist task spelling (Err NotReady) ends = stored_stays (ap (bare_of lang s) ends.3)
  plain_persist task spelling (Err Memory) ends = stored_stays (ap (bare_of lang s) ends.3)
  plain_persist task spelling (Err Device) ends = λ at stands. tt
  plain_persist task spelling (Err other) ends = absurd ends

  pub plain_persist_some : (task : ℕ) (spelling : Part R K S → List ℕ) (result : Result Persisted CoreFault) → EndsPersistSome s.graph task h k s.stored stored spelling result → Stays lang s (record s { held = left_by result (Some k); stored = stored; faults = n })
  plain_persist_some task spelling (Ok Done) ends = plain_persist task spelling (Ok tt) ends
  plain_persist_some task spelling (Ok More) ends = stored_stays (ap (bare_of lang s) ends.3)
  plain_persist_some task spelling (Err NoSuchTask) ends = plain_persist task spelling (Err NoSuchTask) ends
  plain_persist_some task spelling (Err NoCheckpoint) ends = plain_persist task spelling (Err NoCheckpoint) ends
  plain_persist_some task spelling (Err NotReady) ends = plain_persist task spelling (Err NotReady) ends
  plain_persist_some task spelling (Err Memory) ends = stored_stays (ap (bare_of lang s) ends.3)
  plain_persist_some task spelling (Err Device) ends = λ at stands. tt
  plain_persist_some task spelling (Err other) ends = absurd ends

  pub plain_complete : (result : Result ℕ CoreFault) → EndsComplete h k s.stored stored result → Stays lang s (record s { held = left_by result (Some k); stored = stored; faults = n })
  plain_complete (Ok number) ends = stored_stays (ap (bare_of lang s) ends.3)
  plain_complete (Err NoCheckpoint) ends = stored_stays (ap (bare_of lang s) ends.1)
  plain_complete (Err NotAllAcked) ends = stored_stays (ap (bare_of lang s) ends.2)
  plain_complete (Err Device) ends = λ at stands. tt
  plain_complete (Err other) ends = absurd ends
