-- What every engine keeps, and when it is sound.
use Rattle.std.specs.Prelude.{◌≡◌, ◌≢◌, ◌⊎◌, ◌+◌, ◌<◌, ◌≤◌, ℕ, Bool, true, false, List, [], ◌∷◌, ◌++◌, length, map, count_by, slice_get, Option, Some, None, Ok, is_some, All, MatchOption}
use Rattle.dataflow_model.specs.Graph.{Task, Job, Channel}
use Rattle.abs_codec.specs.Entries.{value_at}
use Rattle.abs_codec.specs.Reading.{whole_of}
use Rattle.alignment.specs.Inputs as gates
use Rattle.alignment.specs.Table.{IsKept}
use Rattle.alignment.specs.declared.input.Input.{Input}
use Rattle.alignment.specs.declared.input.Phase.{Phase}
use Rattle.alignment.specs.declared.input.Phase.TheVariants.{AtRest, Aligning, Copied}
use Rattle.channels.specs.declared.item.Item.{Item}
use Rattle.channels.specs.declared.item.Item.TheVariants.{Record, Barrier}
use Rattle.checkpoint_model.specs.Durable as durable
use Rattle.checkpoint_model.specs.Durable.{Transaction, AreLast, transactions_of, SinkTransactions, is_on, HasParts}
use Rattle.checkpoint_model.specs.Pruned.{pruned_running, IsPrunedSound}
use Rattle.checkpoint_model.specs.Book as book
use Rattle.commit_sink.specs.Ledger as ledgers
use Rattle.commit_sink.specs.Ledger.{Ledger, IsOrdered, transaction_at}
use Rattle.commit_sink.specs.Sink.{Sinking}
use Rattle.commit_sink.specs.declared.sink.Pending.{Pending}
use Rattle.commit_sink.specs.declared.transactions.Progress.TheVariants.{Open, PreCommitted, Committed}
use Rattle.coordinator.specs.Coordinator.{has_acked}
use Rattle.job_graph.specs.Expanded.{Expanded, IsExpanded, is_source, is_sink, is_marked, meets, inputs_of}
use Rattle.job_graph.specs.PlainGraph.{HaveOperators}
use Rattle.job_graph.specs.declared.role.Role.{Role}
use Rattle.job_graph.specs.declared.role.Role.TheVariants as role
use Rattle.job_state.specs.Held.{Held, copy_at, came_at, gate_at, logged_at, logs_of, marked_inputs, with_logs}
use Rattle.job_state.specs.Sending.{items_at}
use Rattle.job_state.specs.declared.holding.Holding.{Holding}
use Rattle.job_state.specs.declared.holding.Holding.TheVariants as holds
use Rattle.snapshot_store.specs.Store.{Stored, IsNumbered, is_complete, part_of}
use Rattle.task_part.specs.Spelling.{Logs}
use Rattle.task_part.specs.declared.part.Part.{Part}
use Rattle.task_part.specs.declared.part.Part.TheVariants as part
use Rattle.engine_model.specs.AllRules.{AllRules, IsGood}
use Rattle.engine_model.specs.Language.{Language}
use Rattle.engine_model.specs.State.{State}
use Rattle.engine_model.specs.View.{store_of, job_of, is_logged_in, devices_of, running_of, book_of}

module _ {K S : Type 0} where
  -- the task holds what its role asks for
  abbrev pub HoldsAs : Role → Option (Holding K S) → Type 0
  HoldsAs (role.Source partition) holding = (offset : ℕ) × (holding ≡ Some (holds.Source offset))
  HoldsAs (role.Operator number) holding = (entries : List (K × S)) × (holding ≡ Some (holds.Operator entries))
  HoldsAs (role.Sink subtask) holding = (sink : Sinking) × (holding ≡ Some (holds.Sink sink))

-- Of a running sink subtask: its open transaction is the newest of the subtask, and the only one that is open; those that it has
-- pre-committed are pre-committed, or already committed by a call that was answered as failed; and they are the last of all that are
-- committed or pre-committed.
pub record SinkIn (ledger : Ledger) (subtask : ℕ) (sink : Sinking) : Type 0 where
  pub opened : ledgers.Transaction
  pub opened_at : transaction_at ledger sink.open_one ≡ Some opened
  pub opened_of : opened.subtask ≡ subtask
  pub opened_is : opened.progress ≡ Open
  pub newest : (number : ℕ) (t : ledgers.Transaction) → sink.open_one < number → transaction_at ledger number ≡ Some t → t.subtask ≢ subtask
  pub only_one : (one : Transaction (List ℕ)) × ((book.share (book_of ledger) subtask).open_ones ≡ one ∷ [])
  pub pending_are : All (λ p. (t : ledgers.Transaction) × (transaction_at ledger p.transaction ≡ Some t) × (t.subtask ≡ subtask) × ((t.progress ≡ PreCommitted p.checkpoint) ⊎ (t.progress ≡ Committed))) sink.pending
  pub last : AreLast (map (λ p. p.transaction) sink.pending) (book.share (book_of ledger) subtask).committed
      ((book.share (book_of ledger) subtask).committed ++ transactions_of (book.share (book_of ledger) subtask).pre_committed)

-- Of a pending checkpoint's number: it was given out, is above all that are complete, and the store has exactly the parts that were
-- acknowledged, each the spelling of its task's copy with the task's logs.
pub record PendingIn {R K S O : Type 0} (lang : Language R K S O) (graph : Expanded) (stored : Stored) (held : Held R K S) (number : ℕ) : Type 0 where
  pub positive : 1 ≤ number
  pub given : number < stored.next
  pub above : (n : ℕ) → is_complete stored n ≡ true → n < number
  pub parts : (task : ℕ) → task < stored.tasks → is_some (part_of stored number task) ≡ has_acked held.coordination task
  pub spelled : (task : ℕ) (bytes : List ℕ) → part_of stored number task ≡ Some bytes → (p : Part R K S) × (copy_at held task ≡ Some p) × (whole_of lang.read_part bytes ≡ Ok (with_logs (logs_of graph held task) p))

-- a record of which P holds, or a barrier
abbrev pub IfRecord : {R : Type 0} → (R → Type 0) → Item R → Type 0
IfRecord P (Record r) = P r
IfRecord P (Barrier n) = Unit {0}

-- the logs are one for each marked input of the task, and each logged record fits
pub record LogsSuit {R : Type 0} (RecordFits : R → Type 0) (graph : Expanded) (task : ℕ) (logs : Logs R) : Type 0 where
  pub channels : map (λ log. log.0) logs ≡ marked_inputs graph task
  pub fit : All (λ log. All RecordFits log.1) logs

module _ {R K S : Type 0} where
  -- the copy is what its task asks for; its logs stand by channel
  abbrev pub CopyAs : Role → Option (Part R K S) → Type 0
  CopyAs r None = Unit {0}
  CopyAs (role.Source partition) (Some p) = (offset : ℕ) × (p ≡ part.Source offset)
  CopyAs (role.Operator number) (Some p) = (entries : List (K × S)) × (p ≡ part.Operator entries [])
  CopyAs (role.Sink subtask) (Some p) = (names : List ℕ) × (p ≡ part.Sink names [])

  -- the part is what its task's role asks for, and has a log for each marked input
  abbrev pub PartAs : (RecordFits : R → Type 0) (graph : Expanded) (task : ℕ) → Role → Part R K S → Type 0
  PartAs RecordFits graph task (role.Source partition) p = (offset : ℕ) × (p ≡ part.Source offset)
  PartAs RecordFits graph task (role.Operator number) p = (entries : List (K × S)) × (logs : Logs R) × (p ≡ part.Operator entries logs) × LogsSuit RecordFits graph task logs
  PartAs RecordFits graph task (role.Sink subtask) p = (names : List ℕ) × (logs : Logs R) × (p ≡ part.Sink names logs) × LogsSuit RecordFits graph task logs

-- Each task holds what its role asks for.
abbrev pub AreHeld : {R K S : Type 0} → Expanded → Held R K S → Type 0
AreHeld graph held = (task : ℕ) (r : Role) → slice_get graph.tasks task ≡ Some r → HoldsAs r (slice_get held.tasks task)

-- Each record in a channel fits.
abbrev pub AllFit : {R K S : Type 0} → (R → Type 0) → Held R K S → Type 0
AllFit RecordFits held = (number : ℕ) → All (IfRecord RecordFits) (items_at held.channels number)

-- Each logged record fits.
abbrev pub LogsFit : {R K S : Type 0} → (R → Type 0) → Held R K S → Type 0
LogsFit RecordFits held = (number : ℕ) → All RecordFits (logged_at held number)

module _ {R K S : Type 0} (graph : Expanded) (held : Held R K S) (task : ℕ) where
  -- the barriers that a gate has noted are those that were taken
  abbrev pub NotesBarriers : List Input → Type 0
  NotesBarriers inputs = (input number : ℕ) → slice_get (inputs_of graph task) input ≡ Some number → (gates.input_at inputs input).came ≡ came_at held number

  -- How far a task's gate is. At rest: its task has not copied and no barrier was taken, or it has, and all were. Aligning for the pending
  -- checkpoint: it has inputs, and has not copied. Copied for it: it has.
  abbrev pub StandsAs : Phase → List Input → Type 0
  StandsAs AtRest inputs = (input number : ℕ) → slice_get (inputs_of graph task) input ≡ Some number → came_at held number ≡ is_some (copy_at held task)
  StandsAs (Aligning checkpoint) inputs = (held.coordination.pending ≡ Some checkpoint) × (copy_at held task ≡ None) × NotesBarriers inputs × (0 < length inputs)
  StandsAs (Copied checkpoint) inputs = (held.coordination.pending ≡ Some checkpoint) × (copy_at held task ≢ None) × NotesBarriers inputs

  -- A task's gate has the task's inputs and their marks, and stands with the task's copy and the barriers that were taken. A task that has
  -- acknowledged has copied, and its gate is at rest.
  pub record GateFits : Type 0 where
    pub one_each : length (gate_at held task).inputs ≡ length (inputs_of graph task)
    pub marks : (input number : ℕ) → slice_get (inputs_of graph task) input ≡ Some number → (gates.input_at (gate_at held task).inputs input).is_marked ≡ meets is_marked graph.channels number
    pub kept : IsKept (gate_at held task).phase (gate_at held task).inputs
    pub stands : StandsAs (gate_at held task).phase (gate_at held task).inputs
    pub acknowledged : has_acked held.coordination task ≡ true → (copy_at held task ≢ None) × ((gate_at held task).phase ≡ AtRest)

-- the numbers of the barriers that stand in a queue, the oldest first
abbrev pub barriers_in : {R : Type 0} → List (Item R) → List ℕ
barriers_in [] = []
barriers_in (Record r ∷ rest) = barriers_in rest
barriers_in (Barrier number ∷ rest) = number ∷ barriers_in rest

-- the barriers that are due in a channel: the pending checkpoint's, where the sender has copied and it was not yet taken
abbrev pub barriers_due : Option ℕ → Bool → Bool → List ℕ
barriers_due (Some checkpoint) true false = checkpoint ∷ []
barriers_due pending copied came = []

-- In each channel stand the barriers that are due there.
abbrev pub BarriersStand : {R K S : Type 0} → Expanded → Held R K S → Type 0
BarriersStand graph held = (number : ℕ) (channel : Channel) → slice_get graph.channels number ≡ Some channel
    → barriers_in (items_at held.channels number) ≡ barriers_due held.coordination.pending (is_some (copy_at held channel.sender)) (came_at held number)

-- Where a barrier was taken from a channel, its sender has copied.
abbrev pub CameAfter : {R K S : Type 0} → Expanded → Held R K S → Type 0
CameAfter graph held = (number : ℕ) (channel : Channel) → slice_get graph.channels number ≡ Some channel → came_at held number ≡ true → copy_at held channel.sender ≢ None

-- What a running job holds, by its graph and its operators, which ask that records fit, and that states are good.
pub record Shape {R K S O : Type 0} (rules : AllRules R K S O) (graph : Expanded) (operators : List O) (held : Held R K S) : Type 0 where
  pub tasks : length held.tasks ≡ length graph.tasks
  pub channels : length held.channels ≡ length graph.channels
  pub copies : length held.copies ≡ length graph.tasks
  pub gates : length held.gates ≡ length graph.tasks
  pub came : length held.came ≡ length graph.channels
  pub logs : length held.logs ≡ length graph.channels
  pub acked : length held.coordination.acked ≡ length graph.tasks
  -- where nothing is pending, nothing was copied, and no barrier was taken
  pub none_copied : held.coordination.pending ≡ None → (task : ℕ) → copy_at held task ≡ None
  pub none_came : held.coordination.pending ≡ None → (number : ℕ) → came_at held number ≡ false
  -- the barriers that are due stand in the channels, and those that were taken were sent
  pub barriers : BarriersStand graph held
  pub came_after : CameAfter graph held
  -- each task's gate stands with what it holds, and only back-edges are logged
  pub gate_fits : (task : ℕ) → task < length graph.tasks → GateFits graph held task
  pub only_marked : (number : ℕ) → meets is_marked graph.channels number ≡ false → logged_at held number ≡ []
  -- each task holds, and copies, what its role asks for
  pub forms : AreHeld graph held
  pub copy_forms : (task : ℕ) (r : Role) → slice_get graph.tasks task ≡ Some r → CopyAs r (copy_at held task)
  -- each record in a channel or a log fits, and each operator's states are such as it can go on from
  pub fit : AllFit rules.RecordFits held
  pub logs_fit : LogsFit rules.RecordFits held
  pub good : (task number : ℕ) (operator : O) (entries : List (K × S)) (key : K) (state : S) → slice_get graph.tasks task ≡ Some (role.Operator number) → slice_get operators number ≡ Some operator
      → slice_get held.tasks task ≡ Some (holds.Operator entries) → value_at rules.lang.cmp entries key ≡ Some state → IsGood rules operator state

-- Of a sink's pending transactions none comes after one whose checkpoint is this.
abbrev pub NoneAfter : Option ℕ → List Pending → Type 0
NoneAfter checkpoint transactions = (i : ℕ) (p : Pending) → slice_get transactions i ≡ Some p → checkpoint ≡ Some p.checkpoint → i + 1 ≡ length transactions

-- What a running job keeps, by its devices.
pub record RunsIn {R K S O : Type 0} (lang : Language R K S O) (s : State O R K S) (held : Held R K S) : Type 0 where
  pub pending : MatchOption held.coordination.pending (Unit {0}) (PendingIn lang s.graph s.stored held)
  -- the last complete number is the store's
  pub last_complete : MatchOption held.coordination.last_complete ((n : ℕ) → is_complete s.stored n ≡ false) (λ last. (is_complete s.stored last ≡ true) × ((n : ℕ) → is_complete s.stored n ≡ true → n ≤ last))
  pub sinks : (task subtask : ℕ) (sink : Sinking) → slice_get s.graph.tasks task ≡ Some (role.Sink subtask) → slice_get held.tasks task ≡ Some (holds.Sink sink) → SinkIn s.ledger subtask sink
  -- a pre-committed transaction's checkpoint is complete, or is the one that is pending
  pub checkpoints : (task : ℕ) (sink : Sinking) → slice_get held.tasks task ≡ Some (holds.Sink sink) → All (λ p. (is_complete s.stored p.checkpoint ≡ true) ⊎ (held.coordination.pending ≡ Some p.checkpoint)) sink.pending
  -- and it is the pending one's only if the sink has copied for it
  pub copied_last : (task number : ℕ) (sink : Sinking) → slice_get held.tasks task ≡ Some (holds.Sink sink) → held.coordination.pending ≡ Some number → copy_at held task ≡ None
      → All (λ p. is_complete s.stored p.checkpoint ≡ true) sink.pending
  -- and then it is the last one
  pub last_pending : (task : ℕ) (sink : Sinking) → slice_get held.tasks task ≡ Some (holds.Sink sink) → NoneAfter held.coordination.pending sink.pending

-- Of each complete checkpoint the store has the parts of all tasks, or none.
abbrev pub AllOrNone : {R K S O : Type 0} → Job R K S O → durable.Store R K S → Type 0
AllOrNone {R} {K} {S} {O} job store =
    (n task : ℕ) (kind : Task O) (p : durable.Part R K S) → is_on store.line n ≡ true → slice_get job.graph.tasks task ≡ Some kind → store.parts n task ≡ Some p → HasParts job store n

-- Each part in the store is what its task's role asks for: as every part that an engine has put.
abbrev pub PartsAreFormed : {R K S O : Type 0} → AllRules R K S O → Expanded → Stored → Type 0
PartsAreFormed {R} {K} {S} {O} rules graph stored =
    (n task : ℕ) (r : Role) (bytes : List ℕ) → slice_get graph.tasks task ≡ Some r → part_of stored n task ≡ Some bytes → (p : Part R K S) × (whole_of rules.lang.read_part bytes ≡ Ok p) × PartAs rules.RecordFits graph task r p

-- What every engine keeps. A fresh one is sound.
pub record Keeps {R K S O : Type 0} (rules : AllRules R K S O) (s : State O R K S) : Type 0 where
  pub expanded : IsExpanded s.graph
  pub operators : HaveOperators s.graph s.operators
  pub partitions : length s.partitions ≡ count_by is_source s.graph.tasks
  pub stored_tasks : s.stored.tasks ≡ length s.graph.tasks
  pub numbered : IsNumbered s.stored
  pub subtasks : s.ledger.subtasks ≡ count_by is_sink s.graph.tasks
  pub ordered : IsOrdered s.ledger
  pub shape : MatchOption s.held (Unit {0}) (Shape rules s.graph s.operators)
  pub runs : MatchOption s.held (Unit {0}) (RunsIn rules.lang s)
  pub fresh : s.is_fresh ≡ true → IsPrunedSound (job_of rules.lang s) (is_logged_in s) rules.lang.spelling (devices_of rules.lang s) (pruned_running (running_of rules.lang s))
  pub whole : s.is_fresh ≡ true → AllOrNone (job_of rules.lang s) (store_of rules.lang s.stored)
  pub formed : s.is_fresh ≡ true → PartsAreFormed rules s.graph s.stored
