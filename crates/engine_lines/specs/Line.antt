-- A line: one source, one operator and one sink, with a channel from each to the next.
use Rattle.std.specs.Prelude.{◌≡◌, ℕ, ◌+◌, ◌≤◌, ◌==◌, true, false, List, [], ◌∷◌, ◌++◌, map, filter, length, take, Option, None}
use Rattle.dataflow_model.specs.Graph.{Outcome, Meaning, SourceTask, OperatorTask, SinkTask, Route, Channel, Job, takes_lane}
use Rattle.dataflow_model.specs.Machine.{Configuration, state_under, kept_under}

-- the records that are sent on port 0
abbrev pub on_first_port : {R : Type 0} → List (ℕ × R) → List R
on_first_port sent = map (λ s. s.1) (filter (λ s. s.0 == 0) sent)

abbrev pub no_states : {K S : Type 0} → K → Option S
no_states = λ key. None

module _ {R K S O : Type 0} where
  -- what the operator makes of a record in its key's state
  abbrev pub outcome_under : Meaning R K S O → O → (K → Option S) → R → Outcome R S
  outcome_under meaning operator states r = meaning.apply operator (state_under (meaning.key operator r) (meaning.fresh operator) states) r

  -- the states once it has kept the new one
  abbrev pub states_after : Meaning R K S O → O → (K → Option S) → R → K → Option S
  states_after meaning operator states r = kept_under meaning.same_key (meaning.key operator r) (outcome_under meaning operator states r).state states

  -- what the operator sends on port 0, record after record, from these states on
  abbrev pub sent_along : Meaning R K S O → O → (K → Option S) → List R → List R
  sent_along meaning operator states [] = []
  sent_along meaning operator states (r ∷ rows) =
      on_first_port (outcome_under meaning operator states r).sent ++ sent_along meaning operator (states_after meaning operator states r) rows

  -- the states after these records
  abbrev pub states_along : Meaning R K S O → O → (K → Option S) → List R → K → Option S
  states_along meaning operator states [] = states
  states_along meaning operator states (r ∷ rows) = states_along meaning operator (states_after meaning operator states r) rows

  -- what the operator makes of a list of records: what it sends on port 0, from its beginning
  abbrev pub applied : Meaning R K S O → O → List R → List R
  applied meaning operator rows = sent_along meaning operator no_states rows

-- from a task to the next
abbrev pub line_channel : ℕ → Route → Channel
line_channel sender route = record { sender = sender; receiver = sender + 1; port = 0; route = route; marked = false }

-- a route that takes every record, as the one to the only subtask does
abbrev pub TakesAll : Route → Type 0
TakesAll route = (lane : ℕ) → takes_lane route lane ≡ true

module _ {R K S O : Type 0} where
  -- the job is a line, of this source's partition and this operator
  pub record IsLine (job : Job R K S O) (partition : ℕ) (operator : O) : Type 0 where
    pub tasks : job.graph.tasks ≡ SourceTask partition ∷ OperatorTask operator ∷ SinkTask ∷ []
    pub first : Route
    pub second : Route
    pub channels : job.graph.channels ≡ line_channel 0 first ∷ line_channel 1 second ∷ []
    pub first_takes : TakesAll first
    pub second_takes : TakesAll second

  -- What the sink has put out, what stands before it, and what the operator will make of what stands before that, are what the operator makes of
  -- the records that the source has read.
  pub record IsLineAt (job : Job R K S O) (partition : ℕ) (operator : O) (at : Configuration R K S) : Type 0 where
    pub read : (at.tasks 0).offset ≤ length (job.partitions partition)
    pub sent : (at.tasks 2).output ++ at.channels 1 ++ sent_along job.meaning operator (at.tasks 1).states (at.channels 0) ≡ applied job.meaning operator (take (at.tasks 0).offset (job.partitions partition))
    pub states : states_along job.meaning operator (at.tasks 1).states (at.channels 0) ≡ states_along job.meaning operator no_states (take (at.tasks 0).offset (job.partitions partition))
