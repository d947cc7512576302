-- Several records of one input, worked one after another.
use Rattle.std.specs.Prelude.{◌≡◌, ℕ, Bool, List, [], ◌∷◌, ◌++◌, length, map, take, slice_get, Option, Some}
use Rattle.std.specs.declared.cmp.Ordering.{Ordering}
use Rattle.channels.specs.declared.item.Item.TheVariants.{Record}
use Rattle.dataflow_model.specs.Graph.{Meaning}
use Rattle.dataflow_model.specs.Machine.{kept_under, state_under}
use Rattle.job_graph.specs.Expanded.{Expanded}
use Rattle.job_state.specs.Held.{Held, Operates}
use Rattle.job_state.specs.Sending.{items_at}

-- one record, worked: its key, the state that it leaves under the key, and what is sent
pub record Turn (R K S : Type 0) : Type 0 where
  pub row : R
  pub key : Option K
  pub state : S
  pub sent : List (ℕ × R)

module _ {K S : Type 0} where
  -- the states by key once these are kept
  abbrev pub put_all : (K → K → Bool) → List (K × S) → (K → Option S) → K → Option S
  put_all same_key [] states = states
  put_all same_key (entry ∷ entries) states = put_all same_key entries (kept_under same_key (Some entry.0) entry.1 states)

module _ {R K S : Type 0} where
  -- what all of them send, in order
  abbrev pub sent_by : List (Turn R K S) → List (ℕ × R)
  sent_by [] = []
  sent_by (turn ∷ turns) = turn.sent ++ sent_by turns

  -- the states by key once all of them were worked
  abbrev pub kept_by : (K → K → Bool) → List (Turn R K S) → (K → Option S) → K → Option S
  kept_by same_key [] states = states
  kept_by same_key (turn ∷ turns) states = kept_by same_key turns (kept_under same_key turn.key turn.state states)

  -- these are the last states that they leave, whatever was there before
  abbrev pub AreLastStates : (K → K → Bool) → List (Turn R K S) → List (K × S) → Type 0
  AreLastStates same_key turns entries = (states : K → Option S) (other : K) → put_all same_key entries states other ≡ kept_by same_key turns states other

  -- these records stand first in the channel
  abbrev pub StandFirst : ℕ → List R → Held R K S → Type 0
  StandFirst channel rows held = take (length rows) (items_at held.channels channel) ≡ map Record rows

  -- the records of these turns
  abbrev pub rows_of : List (Turn R K S) → List R
  rows_of turns = map (λ turn. turn.row) turns

module _ {R K S O : Type 0} (meaning : Meaning R K S O) where
  -- an operator has worked these records of an input, which is this channel, one after another
  module _ (cmp : K → K → Ordering) (graph : Expanded) (task input channel : ℕ) where
    abbrev pub OperatesEach : List (Turn R K S) → Held R K S → Held R K S → Type 0
    OperatesEach [] old new = new ≡ old
    OperatesEach (turn ∷ turns) old new =
        (next : Held R K S) × (slice_get (items_at old.channels channel) 0 ≡ Some (Record turn.row))
        × Operates meaning cmp graph task input channel turn.row turn.key turn.state turn.sent old next × OperatesEach turns next new

  -- An operator works records from the first to the last, each on the state that the former left under its key.
  abbrev pub turns_of : O → List R → (K → Option S) → List (Turn R K S)
  turns_of operator [] states = []
  turns_of operator (row ∷ rows) states =
      let key = meaning.key operator row in
      let outcome = meaning.apply operator (state_under key (meaning.fresh operator) states) row in
      record { row = row; key = key; state = outcome.state; sent = outcome.sent } ∷ turns_of operator rows (kept_under meaning.same_key key outcome.state states)
