-- What an attempt holds, and what its calls make of it.
use Rattle.std.specs.Prelude.{◌≡◌, ◌+◌, ◌==◌, ℕ, Bool, true, false, List, [], ◌∷◌, ◌++◌, length, drop, map, filter, flat_map, replicate, slice_get, slice_set, Option, Some, None, unwrap_or}
use Rattle.std.specs.List.{range_with_len}
use Rattle.std.specs.declared.cmp.Ordering.{Ordering}
use Rattle.abs_codec.specs.Entries.{value_at}
use Rattle.alignment.specs.Inputs.{fresh, with_barrier}
use Rattle.alignment.specs.Table.{Alignment, effect_of, after, is_logged}
use Rattle.alignment.specs.declared.input.Phase.TheVariants.{AtRest}
use Rattle.channels.specs.declared.item.Item.{Item}
use Rattle.channels.specs.declared.item.Item.TheVariants.{Record}
use Rattle.commit_sink.specs.Sink.{Sinking}
use Rattle.coordinator.specs.Coordinator.{Coordination, at_first, started, acknowledged, completed}
use Rattle.dataflow_model.specs.Graph.{Meaning}
use Rattle.dataflow_model.specs.Machine.{received, kept_under}
use Rattle.job_graph.specs.Expanded.{Expanded, meets, is_marked, inputs_of}
use Rattle.task_part.specs.Spelling.{Logs}
use Rattle.task_part.specs.declared.part.Part.{Part}
use Rattle.task_part.specs.declared.part.Part.TheVariants as part
use Rattle.job_state.specs.Sending.{Puts, barrier_into, without_head}
use Rattle.job_state.specs.declared.holding.Holding.{Holding}
use Rattle.job_state.specs.declared.holding.Holding.TheVariants as holds

pub record Held (R K S : Type 0) : Type 0 where
  -- what each task holds
  pub tasks : List (Holding K S)
  -- what stands in each channel, the oldest first
  pub channels : List (List (Item R))
  -- each task's gate
  pub gates : List Alignment
  -- of each channel, whether the pending checkpoint's barrier was taken from it
  pub came : List Bool
  -- of each channel, the records that its receiver took from it after its copy and before the barrier, where the channel is a back-edge's
  pub logs : List (List R)
  -- each task's copy for the pending checkpoint, if it has copied; its logs stand by channel
  pub copies : List (Option (Part R K S))
  -- how far the pending checkpoint is
  pub coordination : Coordination

-- a state is kept under its key, if there is one
pub record Keeps {R K S O : Type 0} (meaning : Meaning R K S O) (cmp : K → K → Ordering) (key : Option K) (state : S) (old new : Holding K S) : Type 0 where
  pub entries : List (K × S)
  pub kept : List (K × S)
  pub was : old ≡ holds.Operator entries
  pub is : new ≡ holds.Operator kept
  pub keeps : (other : K) → value_at cmp kept other ≡ kept_under meaning.same_key key state (value_at cmp entries) other

-- the marked inputs of a task, rising
abbrev pub marked_inputs : Expanded → ℕ → List ℕ
marked_inputs graph task = filter (meets is_marked graph.channels) (inputs_of graph task)

-- a gate at rest, for the task's inputs
abbrev pub fresh_gate : Expanded → ℕ → Alignment
fresh_gate graph task = record { phase = AtRest; inputs = map (λ number. fresh (meets is_marked graph.channels number)) (inputs_of graph task) }

-- the records that stand first in a channel, of records by channel
abbrev pub opened : {R : Type 0} → Logs R → ℕ → List R
opened logs number = flat_map (λ log. log.1) (filter (λ log. log.0 == number) logs)

-- a channel's log with one record more, if the record is to be logged
abbrev pub log_with : {R : Type 0} → Bool → ℕ → R → List (List R) → List (List R)
log_with false channel row logs = logs
log_with true channel row logs = slice_set logs channel (unwrap_or (slice_get logs channel) [] ++ row ∷ [])

module _ {R K S : Type 0} where
  -- a task's copy
  abbrev pub copy_at : Held R K S → ℕ → Option (Part R K S)
  copy_at held task = unwrap_or (slice_get held.copies task) None

  -- a task's gate
  abbrev pub gate_at : Held R K S → ℕ → Alignment
  gate_at held task = unwrap_or (slice_get held.gates task) (record { phase = AtRest; inputs = [] })

  -- whether the barrier was taken from the channel
  abbrev pub came_at : Held R K S → ℕ → Bool
  came_at held number = unwrap_or (slice_get held.came number) false

  -- what was logged for the channel
  abbrev pub logged_at : Held R K S → ℕ → List R
  logged_at held number = unwrap_or (slice_get held.logs number) []

  -- the logs of a task: one for each marked input, an empty one too
  abbrev pub logs_of : Expanded → Held R K S → ℕ → Logs R
  logs_of graph held task = map (λ number. (number, logged_at held number)) (marked_inputs graph task)

  -- a copy with these logs
  abbrev pub with_logs : Logs R → Part R K S → Part R K S
  with_logs logs (part.Source offset) = part.Source offset
  with_logs logs (part.Operator entries none) = part.Operator entries logs
  with_logs logs (part.Sink names none) = part.Sink names logs

  -- An attempt that begins: these records in its channels, and no checkpoint pending.
  abbrev pub begun : Expanded → List (Holding K S) → Logs R → Option ℕ → Held R K S
  begun graph tasks openings last_complete = record {
    tasks = tasks;
    channels = map (λ number. map Record (opened openings number)) (range_with_len 0 (length graph.channels));
    gates = map (fresh_gate graph) (range_with_len 0 (length tasks));
    came = replicate (length graph.channels) false;
    logs = replicate (length graph.channels) [];
    copies = replicate (length tasks) None;
    coordination = record (at_first (length tasks)) { last_complete = last_complete };
  }

  -- a task's gate logs the record that it takes from this input, which is this channel, or doesn't
  abbrev pub record_logged : ℕ → ℕ → ℕ → R → Held R K S → Held R K S
  record_logged task input channel row old = record old { logs = log_with (is_logged (gate_at old task) input) channel row old.logs }

  -- the task has taken the record
  abbrev pub record_taken : ℕ → ℕ → ℕ → R → Held R K S → Held R K S
  record_taken task input channel row old = record (record_logged task input channel row old) { channels = without_head channel old.channels }

  -- The task has taken the barrier from this input, which is this channel, and its gate has noted it.
  abbrev pub barrier_taken : ℕ → ℕ → ℕ → ℕ → Held R K S → Held R K S
  barrier_taken task input channel checkpoint old = record old {
    channels = without_head channel old.channels;
    gates = slice_set old.gates task (after (effect_of (gate_at old task) input) checkpoint (with_barrier (gate_at old task).inputs input));
    came = slice_set old.came channel true;
  }

  -- a source has sent its record at the offset
  pub record Reads {O : Type 0} (meaning : Meaning R K S O) (graph : Expanded) (task offset : ℕ) (item : R) (old new : Held R K S) : Type 0 where
    pub sent : Puts (λ number. map Record (received meaning task ((0, item) ∷ []) (slice_get graph.channels number))) old.channels new.channels
    pub ends : new ≡ record old { tasks = slice_set old.tasks task (holds.Source (offset + 1)); channels = new.channels }

  -- an operator has taken the record of an input, which is this channel, kept a state under its key, and sent
  pub record Operates {O : Type 0} (meaning : Meaning R K S O) (cmp : K → K → Ordering) (graph : Expanded) (task input channel : ℕ) (row : R) (key : Option K) (state : S) (sent : List (ℕ × R)) (old new : Held R K S) : Type 0 where
    pub entries : List (K × S)
    pub kept : List (K × S)
    pub was : slice_get old.tasks task ≡ Some (holds.Operator entries)
    pub keeps : (other : K) → value_at cmp kept other ≡ kept_under meaning.same_key key state (value_at cmp entries) other
    pub puts : Puts (λ number. map Record (received meaning task sent (slice_get graph.channels number))) (without_head channel old.channels) new.channels
    pub ends : new ≡ record (record_taken task input channel row old) { tasks = slice_set old.tasks task (holds.Operator kept); channels = new.channels }

  -- a source has copied its offset and sent the barrier
  pub record CopiesSource (graph : Expanded) (task offset checkpoint : ℕ) (old new : Held R K S) : Type 0 where
    pub sent : Puts (λ number. barrier_into checkpoint task (slice_get graph.channels number)) old.channels new.channels
    pub ends : new ≡ record old { channels = new.channels; copies = slice_set old.copies task (Some (part.Source offset)) }

  -- an operator has taken the barrier from an input, which is this channel, copied its map, and sent the barrier
  pub record CopiesOperator (graph : Expanded) (task input channel checkpoint : ℕ) (old new : Held R K S) : Type 0 where
    pub entries : List (K × S)
    pub was : slice_get old.tasks task ≡ Some (holds.Operator entries)
    pub sent : Puts (λ number. barrier_into checkpoint task (slice_get graph.channels number)) (without_head channel old.channels) new.channels
    pub ends : new ≡ record (barrier_taken task input channel checkpoint old) { channels = new.channels; copies = slice_set old.copies task (Some (part.Operator entries [])) }

  -- a sink has taken the barrier from an input, which is this channel, and copied the numbers of its transactions
  abbrev pub sink_copied : ℕ → ℕ → ℕ → ℕ → List ℕ → Sinking → Held R K S → Held R K S
  sink_copied task input channel checkpoint names sink old =
      record (barrier_taken task input channel checkpoint old) { tasks = slice_set old.tasks task (holds.Sink sink); copies = slice_set old.copies task (Some (part.Sink names [])) }

  -- no task has copied, no barrier has come, and nothing is logged
  abbrev pub cleared : Held R K S → Held R K S
  cleared old = record old { came = replicate (length old.came) false; logs = replicate (length old.logs) []; copies = replicate (length old.copies) None }

  abbrev pub with_started : ℕ → Held R K S → Held R K S
  with_started checkpoint old = record (cleared old) { coordination = started old.coordination checkpoint }

  abbrev pub with_acknowledged : ℕ → Held R K S → Held R K S
  with_acknowledged task old = record old { coordination = acknowledged old.coordination task }

  abbrev pub with_completed : ℕ → Held R K S → Held R K S
  with_completed checkpoint old = record (cleared old) { coordination = completed old.coordination checkpoint }

  -- a sink's oldest pre-committed transaction is forgotten
  abbrev pub oldest_forgotten : ℕ → Sinking → Held R K S → Held R K S
  oldest_forgotten task sink old = record old { tasks = slice_set old.tasks task (holds.Sink (record sink { pending = drop 1 sink.pending })) }
