-- What calls do to the plain configuration, of an engine that is known by what it keeps.
use Rattle.std.proofs.Common.{◌≡◌, Option, Some, Result, slice_get, ℕ, List, refl}
use Rattle.commit_sink.specs.Ledger.{Ledger, IsOrdered, committed_rows}
use Rattle.dataflow_model.specs.Graph.{Begins}
use Rattle.dataflow_model.specs.Machine.{Read}
use Rattle.job_graph.specs.declared.role.Role.TheVariants as role
use Rattle.job_state.specs.Held.{Held}
use Rattle.snapshot_store.specs.Store.{Stored}
use Rattle.task_part.specs.declared.part.Part.{Part}
use Rattle.engine_model.specs.AllRules.{AllRules}
use Rattle.engine_model.specs.Calls.{EndsRead, EndsTrigger, EndsPersist, EndsPersistSome, EndsComplete, left_by}
use Rattle.engine_model.specs.Goes.{Goes}
use Rattle.engine_model.specs.Keeps.{Keeps}
use Rattle.engine_model.specs.State.{State}
use Rattle.engine_model.specs.declared.fault.CoreFault.{CoreFault}
use Rattle.engine_model.specs.declared.persisted.Persisted.{Persisted}
use Rattle.engine_model.proofs.Calls.Exact.{goes_withdraws}
use Rattle.engine_plain.specs.Plain.{StepsIfOk, Stays}
use Rattle.engine_plain.proofs.PlainReads.{plain_read}
use Rattle.engine_plain.proofs.Stands.{stays_alone}
use Rattle.engine_plain.proofs.PlainCheckpoints.{plain_trigger, plain_persist, plain_persist_some, plain_complete}

module _ {R K S O : Type 0} (rules : AllRules R K S O) (s : State O R K S) (keeps : Keeps rules s) (h k : Held R K S) (was : s.held ≡ Some h) where
  pub read_is_plain : (n task : ℕ) (result : Result Unit CoreFault) → EndsRead s.graph task h k rules.lang s.partitions result → StepsIfOk result rules.lang (Read task) s (record s { held = left_by result (Some k); faults = n })
  read_is_plain n task result ends = plain_read rules.lang s h k n task was result ends

  module _ (stored : Stored) where
    pub trigger_stays : (result : Result ℕ CoreFault) → EndsTrigger h k s.stored stored result → Stays rules.lang s (record s { held = left_by result (Some k); stored = stored; faults = 0 })
    trigger_stays result ends = plain_trigger rules.lang s h k 0 was stored result ends

    pub persist_stays : (task : ℕ) (spelling : Part R K S → List ℕ) (result : Result Unit CoreFault) → EndsPersist s.graph task h k s.stored stored spelling result → Stays rules.lang s (record s { held = left_by result (Some k); stored = stored; faults = 0 })
    persist_stays task spelling result ends = plain_persist rules.lang s h k 0 was stored task spelling result ends

    pub persist_some_stays : (task : ℕ) (spelling : Part R K S → List ℕ) (result : Result Persisted CoreFault) → EndsPersistSome s.graph task h k s.stored stored spelling result → Stays rules.lang s (record s { held = left_by result (Some k); stored = stored; faults = 0 })
    persist_some_stays task spelling result ends = plain_persist_some rules.lang s h k 0 was stored task spelling result ends

    pub complete_stays : (result : Result ℕ CoreFault) → EndsComplete h k s.stored stored result → Stays rules.lang s (record s { held = left_by result (Some k); stored = stored; faults = 0 })
    complete_stays result ends = plain_complete rules.lang s h k 0 was stored result ends

module _ {R K S O : Type 0} (rules : AllRules R K S O) (s : State O R K S) (keeps : Keeps rules s) where
  -- partitions may grow
  pub append_stays : (partitions : List (List R)) → Stays rules.lang s (record s { partitions = partitions; faults = 0 })
  append_stays partitions = stays_alone rules.lang s partitions 0

  -- no committed row is withdrawn
  pub withdraws : (ledger : Ledger) (held : Option (Held R K S)) (n : ℕ) → IsOrdered ledger → Goes rules.lang s (record s { held = held; ledger = ledger; faults = n }) → (task subtask : ℕ) → slice_get s.graph.tasks task ≡ Some (role.Sink subtask)
      → Begins (committed_rows s.ledger subtask) (committed_rows ledger subtask)
  withdraws ledger held n ordered goes task subtask at = goes_withdraws rules.lang s (record s { held = held; ledger = ledger; faults = n }) task subtask refl at keeps.ordered ordered goes
