-- Several records of one input, worked at once.
use Rattle.std.specs.Prelude.{◌≡◌, ℕ, Bool, true, false, List, [], ◌++◌, map, drop, length, slice_get, slice_set, Option, None, Some, unwrap_or}
use Rattle.std.specs.Option.{option_or}
use Rattle.std.specs.declared.cmp.Ordering.{Ordering}
use Rattle.abs_codec.specs.Entries.{value_at}
use Rattle.alignment.specs.Table.{is_logged}
use Rattle.channels.specs.declared.item.Item.{Item}
use Rattle.channels.specs.declared.item.Item.TheVariants.{Record}
use Rattle.dataflow_model.specs.Graph.{Meaning}
use Rattle.dataflow_model.specs.Machine.{received}
use Rattle.job_graph.specs.Expanded.{Expanded}
use Rattle.keyed_state.specs.Comparing.{HaveStates}
use Rattle.job_state.specs.Batch.{Turn, sent_by, kept_by, rows_of}
use Rattle.job_state.specs.Held.{Held, gate_at}
use Rattle.job_state.specs.Sending.{Puts, items_at}
use Rattle.job_state.specs.declared.holding.Holding.{Holding}
use Rattle.job_state.specs.declared.holding.Holding.TheVariants as holds

module _ {R : Type 0} where
  -- the first items of a channel are taken
  abbrev pub without_first : ℕ → ℕ → List (List (Item R)) → List (List (Item R))
  without_first count number channels = slice_set channels number (drop count (items_at channels number))

  -- a channel's log with these records more, if they are to be logged
  abbrev pub log_with_all : Bool → ℕ → List R → List (List R) → List (List R)
  log_with_all false channel rows logs = logs
  log_with_all true channel rows logs = slice_set logs channel (unwrap_or (slice_get logs channel) [] ++ rows)

-- each of these keys has the state that is expected of it, if any are
abbrev pub HaveExpected : {K S : Type 0} → (K → K → Ordering) → (entries : List (K × S)) → List K → Option (List (Option S)) → Type 0
HaveExpected cmp entries keys None = Unit {0}
HaveExpected cmp entries keys (Some states) = HaveStates cmp entries keys states

-- these states are kept, each under its key
pub record KeepsAll {K S : Type 0} (cmp : K → K → Ordering) (states : List (K × S)) (old new : Holding K S) : Type 0 where
  pub entries : List (K × S)
  pub kept : List (K × S)
  pub was : old ≡ holds.Operator entries
  pub is : new ≡ holds.Operator kept
  pub keeps : (other : K) → value_at cmp kept other ≡ option_or (value_at cmp states other) (value_at cmp entries other)

module _ {R K S O : Type 0} (meaning : Meaning R K S O) (cmp : K → K → Ordering) (graph : Expanded) (task input channel : ℕ) where
  -- All records are taken at once, the states are kept, and what is sent is put last in its channels.
  pub record OperatesAll (turns : List (Turn R K S)) (old new : Held R K S) : Type 0 where
    pub entries : List (K × S)
    pub kept : List (K × S)
    pub was : slice_get old.tasks task ≡ Some (holds.Operator entries)
    pub keeps : (other : K) → value_at cmp kept other ≡ kept_by meaning.same_key turns (value_at cmp entries) other
    pub puts : Puts (λ number. map Record (received meaning task (sent_by turns) (slice_get graph.channels number))) (without_first (length turns) channel old.channels) new.channels
    pub ends : new ≡ record old { tasks = slice_set old.tasks task (holds.Operator kept); channels = new.channels; logs = log_with_all (is_logged (gate_at old task) input) channel (rows_of turns) old.logs }
