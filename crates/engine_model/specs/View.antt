-- What an engine's data stand for in the checkpoint model.
use Rattle.std.specs.Prelude.{ℕ, Bool, List, [], map, filter, slice_get, Option, Some, None, Ok, Err, is_some, unwrap_or, option_map}
use Rattle.std.specs.Ordering.{nat_cmp}
use Rattle.std.specs.declared.cmp.Ordering.{Ordering}
use Rattle.std.specs.List.{range_with_len}
use Rattle.abs_codec.specs.Entries.{value_at}
use Rattle.abs_codec.specs.Reading.{whole_of}
use Rattle.channels.specs.declared.item.Item.{Item}
use Rattle.channels.specs.declared.item.Item.TheVariants.{Record, Barrier}
use Rattle.checkpoint_model.specs.Attempt as attempt
use Rattle.checkpoint_model.specs.Book as book
use Rattle.checkpoint_model.specs.Durable as durable
use Rattle.checkpoint_model.specs.Engine.{Running}
use Rattle.checkpoint_model.specs.Headline.{Engine}
use Rattle.commit_sink.specs.Ledger.{Ledger, Transaction}
use Rattle.commit_sink.specs.declared.transactions.Progress.{Progress}
use Rattle.commit_sink.specs.declared.transactions.Progress.TheVariants.{Open, PreCommitted, Committed, Aborted}
use Rattle.dataflow_model.specs.Graph.{Job}
use Rattle.dataflow_model.specs.Machine.{TaskState, fresh_task}
use Rattle.job_graph.specs.Expanded.{Expanded, meets, is_marked}
use Rattle.job_graph.specs.PlainGraph.{graph_of}
use Rattle.job_graph.specs.declared.role.Role.{Role}
use Rattle.job_graph.specs.declared.role.Role.TheVariants as role
use Rattle.job_state.specs.Held.{Held, copy_at, came_at, logged_at}
use Rattle.job_state.specs.Sending.{items_at}
use Rattle.job_state.specs.declared.holding.Holding.{Holding}
use Rattle.job_state.specs.declared.holding.Holding.TheVariants as holds
use Rattle.snapshot_store.specs.Store.{Stored, part_of, is_complete}
use Rattle.source_log.specs.Partitions.{records_at}
use Rattle.task_part.specs.Spelling.{Logs}
use Rattle.task_part.specs.declared.part.Part.{Part}
use Rattle.task_part.specs.declared.part.Part.TheVariants as part
use Rattle.engine_model.specs.Language.{Language}
use Rattle.engine_model.specs.State.{State}

-- ---- what a running job holds

abbrev pub plain_item : {R : Type 0} → Item R → attempt.Item R
plain_item (Record r) = attempt.Record r
plain_item (Barrier n) = attempt.Barrier

module _ {R K S : Type 0} where
  -- a source's offset, an operator's map; a sink's output stands in its transactions
  abbrev pub held_state : (K → K → Ordering) → Option (Holding K S) → TaskState R K S
  held_state cmp None = fresh_task
  held_state cmp (Some (holds.Source offset)) = record { offset = offset; states = λ key. None; output = [] }
  held_state cmp (Some (holds.Operator entries)) = record { offset = 0; states = value_at cmp entries; output = [] }
  held_state cmp (Some (holds.Sink sink)) = fresh_task

  -- what was copied
  abbrev pub copied_state : (K → K → Ordering) → Option (Part R K S) → TaskState R K S
  copied_state cmp None = fresh_task
  copied_state cmp (Some (part.Source offset)) = record { offset = offset; states = λ key. None; output = [] }
  copied_state cmp (Some (part.Operator entries logs)) = record { offset = 0; states = value_at cmp entries; output = [] }
  copied_state cmp (Some (part.Sink names logs)) = fresh_task

  -- the transactions that were copied
  abbrev pub names_in : Option (Part R K S) → List ℕ
  names_in None = []
  names_in (Some (part.Source offset)) = []
  names_in (Some (part.Operator entries logs)) = []
  names_in (Some (part.Sink names logs)) = names

  -- only sinks name transactions
  abbrev pub named_by : Option Role → Option (Part R K S) → List ℕ
  named_by None copy = []
  named_by (Some (role.Source partition)) copy = []
  named_by (Some (role.Operator number)) copy = []
  named_by (Some (role.Sink subtask)) copy = names_in copy

  -- The attempt, as its data lie. What they have of a checkpoint counts only while it is pending.
  abbrev pub attempt_of : (K → K → Ordering) → Held R K S → attempt.Attempt R K S
  attempt_of cmp held = record {
    tasks = λ task. held_state cmp (slice_get held.tasks task);
    channels = λ number. map plain_item (items_at held.channels number);
    pending = is_some held.coordination.pending;
    copied = λ task. is_some (copy_at held task);
    copies = λ task. copied_state cmp (copy_at held task);
    came = λ number. came_at held number;
    logs = λ number. logged_at held number;
  }

  abbrev pub run_of : (K → K → Ordering) → Expanded → Held R K S → Running R K S
  run_of cmp graph held = record {
    attempt = attempt_of cmp held;
    number = unwrap_or held.coordination.pending 0;
    named = λ task. named_by (slice_get graph.tasks task) (copy_at held task);
  }

-- ---- what the devices hold

abbrev pub log_at : {R : Type 0} → Logs R → ℕ → List R
log_at logs number = unwrap_or (value_at nat_cmp logs number) []

module _ {R K S : Type 0} where
  abbrev pub part_view : (K → K → Ordering) → Part R K S → durable.Part R K S
  part_view cmp (part.Source offset) = record { offset = offset; states = λ key. None; names = []; logs = λ number. [] }
  part_view cmp (part.Operator entries logs) = record { offset = 0; states = value_at cmp entries; names = []; logs = log_at logs }
  part_view cmp (part.Sink names logs) = record { offset = 0; states = λ key. None; names = names; logs = log_at logs }

module _ {R K S O : Type 0} where
  -- the part that bytes spell, if they spell one
  abbrev pub part_in : Language R K S O → Option (List ℕ) → Option (durable.Part R K S)
  part_in lang None = None
  part_in lang (Some bytes) = elim (whole_of lang.read_part bytes) [ Ok p ↦ Some (part_view lang.cmp p) | Err fault ↦ None ]

  -- the line has the complete numbers, rising
  abbrev pub store_of : Language R K S O → Stored → durable.Store R K S
  store_of lang stored = record { next = stored.next; parts = λ number task. part_in lang (part_of stored number task); line = filter (is_complete stored) (range_with_len 0 stored.next) }

abbrev pub stage_of : Progress → book.Stage
stage_of Open = book.IsOpen
stage_of (PreCommitted checkpoint) = book.IsPreCommitted checkpoint
stage_of Committed = book.IsCommitted
stage_of Aborted = book.IsAborted

abbrev pub entry_of : Transaction → book.Entry (List ℕ)
entry_of t = record { sink = t.subtask; stage = stage_of t.progress; records = t.records }

abbrev pub book_of : Ledger → book.Book (List ℕ)
book_of ledger = record { entries = map entry_of ledger.transactions; order = ledger.committed }

-- the transactions of a task: a sink's, and no others'
abbrev pub transactions_at : Ledger → Option Role → durable.SinkTransactions (List ℕ)
transactions_at ledger None = record { committed = []; pre_committed = []; open_ones = [] }
transactions_at ledger (Some (role.Source partition)) = record { committed = []; pre_committed = []; open_ones = [] }
transactions_at ledger (Some (role.Operator number)) = record { committed = []; pre_committed = []; open_ones = [] }
transactions_at ledger (Some (role.Sink subtask)) = book.share (book_of ledger) subtask

-- ---- the engine

module _ {R K S O : Type 0} where
  abbrev pub job_of : Language R K S O → State O R K S → Job R K S O
  job_of lang s = record { meaning = lang.meaning; graph = graph_of s.graph s.operators; partitions = λ p. records_at s.partitions p }

  abbrev pub is_logged_in : State O R K S → ℕ → Bool
  is_logged_in s number = meets is_marked s.graph.channels number

  abbrev pub devices_of : Language R K S O → State O R K S → durable.Devices R K S (List ℕ)
  devices_of lang s = record { store = store_of lang s.stored; sinks = λ task. transactions_at s.ledger (slice_get s.graph.tasks task) }

  abbrev pub running_of : Language R K S O → State O R K S → Option (Running R K S)
  running_of lang s = option_map (run_of lang.cmp s.graph) s.held

  -- the engine, as its data lie
  abbrev pub engine_of : Language R K S O → State O R K S → Engine R K S (List ℕ)
  engine_of lang s = record { devices = devices_of lang s; running = running_of lang s }
