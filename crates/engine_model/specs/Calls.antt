-- How each call on a running job ends: by what the job holds before (h) and after (k), and the device that the call uses.
-- Where a device has failed, what the job holds afterwards is of no account: it is lost.
use Rattle.std.specs.Prelude.{◌+◌, ◌^◌, ◌≡◌, ◌≢◌, ◌⊎◌, ◌<◌, ◌≤◌, ℕ, Bool, true, false, List, length, slice_get, Option, Some, None, Result, Ok, Err, IsSome}
use Rattle.std.specs.declared.cmp.Ordering.{Ordering}
use Rattle.abs_codec.specs.Entries.{value_at}
use Rattle.alignment.specs.Table.{effect_of, is_blocked}
use Rattle.alignment.specs.declared.input.Effect.{Effect}
use Rattle.alignment.specs.declared.input.Effect.TheVariants.{Copy, CopyAndDone}
use Rattle.alignment.specs.declared.input.Phase.TheVariants.{AtRest}
use Rattle.channels.specs.declared.item.Item.TheVariants.{Record, Barrier}
use Rattle.commit_sink.specs.Ledger.{Ledger, appended, begun, pre_committed}
use Rattle.commit_sink.specs.Sink.{Sinking, names_with_open, pre_committed_last}
use Rattle.coordinator.specs.Coordinator.{IsReady, has_acked}
use Rattle.dataflow_model.specs.Machine.{state_under}
use Rattle.job_graph.specs.Expanded.{Expanded, inputs_of}
use Rattle.job_graph.specs.declared.role.Role.TheVariants as role
use Rattle.job_state.specs.Held.{Held, copy_at, came_at, gate_at, logs_of, with_logs, record_taken, barrier_taken, Reads, Operates, CopiesSource, CopiesOperator, sink_copied, with_started, with_acknowledged, with_completed}
use Rattle.job_state.specs.Sending.{items_at}
use Rattle.job_state.specs.declared.holding.Holding.TheVariants as holds
use Rattle.snapshot_store.specs.Store.{Stored, with_part, completed, reserved, discarded_below}
use Rattle.source_log.specs.Partitions.{records_at}
use Rattle.task_part.specs.declared.part.Part.{Part}
use Rattle.engine_model.specs.Language.{Language}
use Rattle.engine_model.specs.declared.fault.CoreFault.{CoreFault}
use Rattle.engine_model.specs.declared.fault.CoreFault.TheVariants.{NoSuchTask, NotReady, ChannelBlocked, CheckpointPending, NoCheckpoint, NotAllAcked, Memory, Device, NumbersSpent}
use Rattle.engine_model.specs.declared.persisted.Persisted.{Persisted}
use Rattle.engine_model.specs.declared.persisted.Persisted.TheVariants.{More, Done}

-- the state under a key, if there is a key and a state
abbrev pub state_of : {K S : Type 0} → (K → K → Ordering) → List (K × S) → Option K → Option S
state_of cmp entries None = None
state_of cmp entries (Some key) = value_at cmp entries key

-- ---- tasks and their inputs

-- the channel that a task's input is
abbrev pub input_at : Expanded → ℕ → ℕ → Option ℕ
input_at graph task input = slice_get (inputs_of graph task) input

abbrev pub IsSource : Expanded → ℕ → Type 0
IsSource graph task = (partition : ℕ) × (slice_get graph.tasks task ≡ Some (role.Source partition))

abbrev pub IsTask : Expanded → ℕ → Type 0
IsTask graph task = IsSome (slice_get graph.tasks task)

module _ {R K S : Type 0} where
  -- no record stands first
  abbrev pub NoRecord : Held R K S → ℕ → Type 0
  NoRecord h channel = (r : R) → slice_get (items_at h.channels channel) 0 ≢ Some (Record r)

  -- the barrier of the pending checkpoint stands first
  abbrev pub IsBarrierNext : Held R K S → ℕ → ℕ → Type 0
  IsBarrierNext h channel checkpoint = (slice_get (items_at h.channels channel) 0 ≡ Some (Barrier checkpoint)) × (h.coordination.pending ≡ Some checkpoint) × (came_at h channel ≡ false)

  -- the input's barrier has come, and the task waits for others
  abbrev pub IsBlocked : ℕ → ℕ → Held R K S → Type 0
  IsBlocked task input h = is_blocked (gate_at h task) input ≡ true

  -- the input is free, and this record stands first
  abbrev pub IsRecordDue : ℕ → ℕ → Held R K S → ℕ → R → Type 0
  IsRecordDue task input h channel row = ¬ IsBlocked task input h × (slice_get (items_at h.channels channel) 0 ≡ Some (Record row))

  -- the input is free, and the barrier of the pending checkpoint stands first
  abbrev pub IsBarrierDue : ℕ → ℕ → Held R K S → ℕ → ℕ → Type 0
  IsBarrierDue task input h channel checkpoint = ¬ IsBlocked task input h × IsBarrierNext h channel checkpoint

-- the task copies at such a barrier
abbrev pub is_copy : Effect → Bool
is_copy Copy = true
is_copy CopyAndDone = true
is_copy other = false

-- a task's input, which is this channel
module _ {R K S : Type 0} (task input : ℕ) (h k : Held R K S) (channel : ℕ) where
  -- The task takes the barrier, with this effect, and does no more.
  pub record NotesBarrier (effect : Effect) : Type 0 where
    pub checkpoint : ℕ
    pub free : ¬ IsBlocked task input h
    pub barrier : IsBarrierNext h channel checkpoint
    pub brings : effect ≡ effect_of (gate_at h task) input
    pub no_copy : is_copy effect ≡ false
    pub ends : k ≡ barrier_taken task input channel checkpoint h

  module _ (old new : Ledger) where
    -- a sink puts its first record last in its open transaction
    pub record PutsOut (spelling : R → List ℕ) : Type 0 where
      pub row : R
      pub sink : Sinking
      pub free : ¬ IsBlocked task input h
      pub head : slice_get (items_at h.channels channel) 0 ≡ Some (Record row)
      pub was : slice_get h.tasks task ≡ Some (holds.Sink sink)
      pub appends : new ≡ appended old sink.open_one (spelling row)
      pub ends : k ≡ record_taken task input channel row h

    -- the device failed, before its work or after it
    pub record FailsToPutOut (spelling : R → List ℕ) : Type 0 where
      pub row : R
      pub sink : Sinking
      pub free : ¬ IsBlocked task input h
      pub head : slice_get (items_at h.channels channel) 0 ≡ Some (Record row)
      pub was : slice_get h.tasks task ≡ Some (holds.Sink sink)
      pub either : (new ≡ old) ⊎ (new ≡ appended old sink.open_one (spelling row))

    abbrev pub EndsPutOut : (R → List ℕ) → Result Unit CoreFault → Type 0
    EndsPutOut spelling (Ok u) = PutsOut spelling
    EndsPutOut spelling (Err ChannelBlocked) = IsBlocked task input h × (k ≡ h) × (new ≡ old)
    EndsPutOut spelling (Err NotReady) = ¬ IsBlocked task input h × NoRecord h channel × (k ≡ h) × (new ≡ old)
    EndsPutOut spelling (Err Memory) = (row : R) × IsRecordDue task input h channel row × (k ≡ h) × (new ≡ old)
    EndsPutOut spelling (Err Device) = FailsToPutOut spelling
    EndsPutOut spelling (Err other) = ⊥

  module _ (subtask : ℕ) (old new : Ledger) where
    -- a sink that copies begins a transaction, pre-commits the one that was open, and copies the names
    pub record CopiesSink (effect : Effect) : Type 0 where
      pub checkpoint : ℕ
      pub sink : Sinking
      pub free : ¬ IsBlocked task input h
      pub barrier : IsBarrierNext h channel checkpoint
      pub brings : effect ≡ effect_of (gate_at h task) input
      pub copies : is_copy effect ≡ true
      pub was : slice_get h.tasks task ≡ Some (holds.Sink sink)
      pub transactions : new ≡ pre_committed (begun old subtask) sink.open_one checkpoint
      pub ends : k ≡ sink_copied task input channel checkpoint (names_with_open sink) (record (pre_committed_last sink checkpoint) { open_one = length old.transactions + 1 }) h

    pub record FailsToCopySink : Type 0 where
      pub checkpoint : ℕ
      pub sink : Sinking
      pub free : ¬ IsBlocked task input h
      pub barrier : IsBarrierNext h channel checkpoint
      pub copies : is_copy (effect_of (gate_at h task) input) ≡ true
      pub was : slice_get h.tasks task ≡ Some (holds.Sink sink)
      pub either : ((new ≡ old) ⊎ (new ≡ begun old subtask)) ⊎ (new ≡ pre_committed (begun old subtask) sink.open_one checkpoint)

    -- a sink takes the barrier
    abbrev pub EndsSinkBarrier : Result Effect CoreFault → Type 0
    EndsSinkBarrier (Ok effect) = (NotesBarrier effect × (new ≡ old)) ⊎ CopiesSink effect
    EndsSinkBarrier (Err ChannelBlocked) = IsBlocked task input h × (k ≡ h) × (new ≡ old)
    EndsSinkBarrier (Err NotReady) = ¬ IsBlocked task input h × ((checkpoint : ℕ) → ¬ IsBarrierNext h channel checkpoint) × (k ≡ h) × (new ≡ old)
    EndsSinkBarrier (Err Memory) = (checkpoint : ℕ) × IsBarrierDue task input h channel checkpoint × (k ≡ h) × (new ≡ old)
    EndsSinkBarrier (Err Device) = FailsToCopySink
    EndsSinkBarrier (Err other) = ⊥

module _ {R K S : Type 0} (graph : Expanded) (task : ℕ) (h k : Held R K S) where
  -- a source sends its next record
  pub record ReadsNext {O : Type 0} (lang : Language R K S O) (partitions : List (List R)) : Type 0 where
    pub partition : ℕ
    pub offset : ℕ
    pub row : R
    pub is_source : slice_get graph.tasks task ≡ Some (role.Source partition)
    pub at : slice_get h.tasks task ≡ Some (holds.Source offset)
    pub next : slice_get (records_at partitions partition) offset ≡ Some row
    pub reads : Reads lang.meaning graph task offset row h k

  -- the source's partition has a record at the source's offset
  pub record HasNext (partitions : List (List R)) : Type 0 where
    pub partition : ℕ
    pub offset : ℕ
    pub is_source : slice_get graph.tasks task ≡ Some (role.Source partition)
    pub at : slice_get h.tasks task ≡ Some (holds.Source offset)
    pub more : offset < length (records_at partitions partition)

  abbrev pub EndsRead : {O : Type 0} → Language R K S O → List (List R) → Result Unit CoreFault → Type 0
  EndsRead lang partitions (Ok u) = ReadsNext lang partitions
  EndsRead lang partitions (Err NoSuchTask) = ¬ IsSource graph task × (k ≡ h)
  EndsRead lang partitions (Err NotReady) = (partition offset : ℕ) × (slice_get graph.tasks task ≡ Some (role.Source partition)) × (slice_get h.tasks task ≡ Some (holds.Source offset)) × (length (records_at partitions partition) ≤ offset) × (k ≡ h)
  EndsRead lang partitions (Err Memory) = HasNext partitions × (k ≡ h)
  EndsRead lang partitions (Err Device) = HasNext partitions
  EndsRead lang partitions (Err other) = ⊥

  -- a source copies its offset and sends the barrier
  abbrev pub EndsInject : Result Unit CoreFault → Type 0
  EndsInject (Ok u) = (checkpoint offset : ℕ) × IsSource graph task × (h.coordination.pending ≡ Some checkpoint) × (copy_at h task ≡ None) × (slice_get h.tasks task ≡ Some (holds.Source offset)) × CopiesSource graph task offset checkpoint h k
  EndsInject (Err NoSuchTask) = ¬ IsSource graph task × (k ≡ h)
  EndsInject (Err NoCheckpoint) = IsSource graph task × (h.coordination.pending ≡ None) × (k ≡ h)
  EndsInject (Err NotReady) = IsSource graph task × (h.coordination.pending ≢ None) × (copy_at h task ≢ None) × (k ≡ h)
  EndsInject (Err Memory) = IsSource graph task × (h.coordination.pending ≢ None) × (copy_at h task ≡ None) × (k ≡ h)
  EndsInject (Err other) = ⊥

  -- the task's input is this channel
  module _ (input channel : ℕ) where
    -- an operator works its first record
    pub record OperatesNext {O : Type 0} (lang : Language R K S O) (operator : O) : Type 0 where
      pub row : R
      pub entries : List (K × S)
      pub free : ¬ IsBlocked task input h
      pub head : slice_get (items_at h.channels channel) 0 ≡ Some (Record row)
      pub was : slice_get h.tasks task ≡ Some (holds.Operator entries)
      pub operates : let outcome = lang.meaning.apply operator (state_under (lang.meaning.key operator row) (lang.meaning.fresh operator) (value_at lang.cmp entries)) row in
          Operates lang.meaning lang.cmp graph task input channel row (lang.meaning.key operator row) outcome.state outcome.sent h k

    abbrev pub EndsOperate : {O : Type 0} → Language R K S O → O → Result Unit CoreFault → Type 0
    EndsOperate lang operator (Ok u) = OperatesNext lang operator
    EndsOperate lang operator (Err ChannelBlocked) = IsBlocked task input h × (k ≡ h)
    EndsOperate lang operator (Err NotReady) = ¬ IsBlocked task input h × NoRecord h channel × (k ≡ h)
    EndsOperate lang operator (Err Memory) = (row : R) × IsRecordDue task input h channel row × (k ≡ h)
    EndsOperate lang operator (Err other) = ⊥

    -- an operator that copies takes the barrier, copies its map, and sends the barrier
    pub record CopiesMap (effect : Effect) : Type 0 where
      pub checkpoint : ℕ
      pub free : ¬ IsBlocked task input h
      pub barrier : IsBarrierNext h channel checkpoint
      pub brings : effect ≡ effect_of (gate_at h task) input
      pub copies : is_copy effect ≡ true
      pub copied : CopiesOperator graph task input channel checkpoint h k

    -- an operator takes the barrier
    abbrev pub EndsOperatorBarrier : Result Effect CoreFault → Type 0
    EndsOperatorBarrier (Ok effect) = NotesBarrier task input h k channel effect ⊎ CopiesMap effect
    EndsOperatorBarrier (Err ChannelBlocked) = IsBlocked task input h × (k ≡ h)
    EndsOperatorBarrier (Err NotReady) = ¬ IsBlocked task input h × ((checkpoint : ℕ) → ¬ IsBarrierNext h channel checkpoint) × (k ≡ h)
    EndsOperatorBarrier (Err Memory) = (checkpoint : ℕ) × IsBarrierDue task input h channel checkpoint × (k ≡ h)
    EndsOperatorBarrier (Err other) = ⊥

  -- the task's part can be put: it has copied, its logs are closed, and it has not acknowledged
  pub record IsPersistNext (checkpoint : ℕ) (p : Part R K S) : Type 0 where
    pub is_task : IsTask graph task
    pub pending : h.coordination.pending ≡ Some checkpoint
    pub copied : copy_at h task ≡ Some p
    pub closed : (gate_at h task).phase ≡ AtRest
    pub unacknowledged : has_acked h.coordination task ≡ false

  -- the task's part is wanted: it has copied, and it has not acknowledged
  pub record IsPartWanted (checkpoint : ℕ) (p : Part R K S) : Type 0 where
    pub is_task : IsTask graph task
    pub pending : h.coordination.pending ≡ Some checkpoint
    pub copied : copy_at h task ≡ Some p
    pub unacknowledged : has_acked h.coordination task ≡ false

  module _ (old new : Stored) where
    -- a task's part is put and acknowledged
    abbrev pub EndsPersist : (Part R K S → List ℕ) → Result Unit CoreFault → Type 0
    EndsPersist spelling (Ok u) = (checkpoint : ℕ) × (p : Part R K S) × IsPersistNext checkpoint p × (new ≡ with_part old checkpoint task (spelling (with_logs (logs_of graph h task) p))) × (k ≡ with_acknowledged task h)
    EndsPersist spelling (Err NoSuchTask) = ¬ IsTask graph task × (k ≡ h) × (new ≡ old)
    EndsPersist spelling (Err NoCheckpoint) = IsTask graph task × (h.coordination.pending ≡ None) × (k ≡ h) × (new ≡ old)
    EndsPersist spelling (Err NotReady) = IsTask graph task × (h.coordination.pending ≢ None) × (((copy_at h task ≡ None) ⊎ ((gate_at h task).phase ≢ AtRest)) ⊎ (has_acked h.coordination task ≡ true)) × (k ≡ h) × (new ≡ old)
    EndsPersist spelling (Err Memory) = (checkpoint : ℕ) × (p : Part R K S) × IsPersistNext checkpoint p × (k ≡ h) × (new ≡ old)
    EndsPersist spelling (Err Device) = (checkpoint : ℕ) × (p : Part R K S) × IsPersistNext checkpoint p × ((new ≡ old) ⊎ (new ≡ with_part old checkpoint task (spelling (with_logs (logs_of graph h task) p))))
    EndsPersist spelling (Err other) = ⊥

    -- Work on a task's part has gone on, which nothing here shows, or its part is put and acknowledged.
    abbrev pub EndsPersistSome : (Part R K S → List ℕ) → Result Persisted CoreFault → Type 0
    EndsPersistSome spelling (Ok Done) = EndsPersist spelling (Ok tt)
    EndsPersistSome spelling (Ok More) = (checkpoint : ℕ) × (p : Part R K S) × IsPartWanted checkpoint p × (k ≡ h) × (new ≡ old)
    EndsPersistSome spelling (Err Memory) = (checkpoint : ℕ) × (p : Part R K S) × IsPartWanted checkpoint p × (k ≡ h) × (new ≡ old)
    EndsPersistSome spelling (Err fault) = EndsPersist spelling (Err fault)

-- the store once the parts below the last complete number are gone
abbrev pub tidied : Option ℕ → Stored → Stored
tidied None stored = stored
tidied (Some last) stored = discarded_below stored last

module _ {R K S : Type 0} (h k : Held R K S) (old new : Stored) where
  -- a checkpoint begins
  abbrev pub EndsTrigger : Result ℕ CoreFault → Type 0
  EndsTrigger (Ok n) = (h.coordination.pending ≡ None) × (n ≡ old.next) × (new ≡ reserved (tidied h.coordination.last_complete old)) × (k ≡ with_started old.next h)
  EndsTrigger (Err CheckpointPending) = (h.coordination.pending ≢ None) × (k ≡ h) × (new ≡ old)
  EndsTrigger (Err NumbersSpent) = (h.coordination.pending ≡ None) × (2 ^ 63 ≤ old.next) × (k ≡ h) × (new ≡ tidied h.coordination.last_complete old)
  EndsTrigger (Err Device) = (h.coordination.pending ≡ None) × (((new ≡ old) ⊎ (new ≡ tidied h.coordination.last_complete old)) ⊎ (new ≡ reserved (tidied h.coordination.last_complete old)))
  EndsTrigger (Err other) = ⊥

  -- the pending checkpoint is complete
  abbrev pub EndsComplete : Result ℕ CoreFault → Type 0
  EndsComplete (Ok n) = (h.coordination.pending ≡ Some n) × IsReady h.coordination × (new ≡ completed old n) × (k ≡ with_completed n h)
  EndsComplete (Err NoCheckpoint) = (h.coordination.pending ≡ None) × (k ≡ h) × (new ≡ old)
  EndsComplete (Err NotAllAcked) = (h.coordination.pending ≢ None) × ¬ IsReady h.coordination × (k ≡ h) × (new ≡ old)
  EndsComplete (Err Device) = (n : ℕ) × (h.coordination.pending ≡ Some n) × IsReady h.coordination × ((new ≡ old) ⊎ (new ≡ completed old n))
  EndsComplete (Err other) = ⊥

-- what is left of an attempt after a call that ends so: a device's failure takes the job down
abbrev pub left_by : {T A : Type 0} → Result T CoreFault → Option A → Option A
left_by (Ok v) a = a
left_by (Err Device) a = None
left_by (Err other) a = a

-- what holds where a call has come to its device: where it is done, or where the device failed
abbrev pub WhereReached : {T : Type 0} → Result T CoreFault → Type 0 → Type 0
WhereReached (Ok v) P = P
WhereReached (Err Device) P = P
WhereReached (Err other) P = Unit {0}

-- what holds where a part was put, or the device failed
abbrev pub WherePut : Result Persisted CoreFault → Type 0 → Type 0
WherePut (Ok Done) P = P
WherePut (Err Device) P = P
WherePut other P = Unit {0}
