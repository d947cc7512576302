-- The channels that an edge of a job stands for.
use Rattle.std.specs.Prelude.{ℕ, ◌+◌, List, take, map, sum, Bool, true, false, slice_index, if◌then◌else◌}
use Rattle.std.specs.List.{flat_map, range_with_len}
use Rattle.dataflow_model.specs.Graph.{Channel, Route, Every, Lanes}
use Rattle.job_spec.specs.declared.edge.EdgeRoute.{EdgeRoute}
use Rattle.job_spec.specs.declared.edge.EdgeRoute.TheVariants.{Forward, Hash}
use Rattle.job_spec.specs.declared.edge.EdgeSpec.{EdgeSpec}

-- the number of a vertex's subtask 0
abbrev pub first_task : List ℕ → ℕ → ℕ
first_task parallelisms vertex = sum (take vertex parallelisms)

abbrev pub channel_on : EdgeSpec → (sender receiver : ℕ) → Route → Channel
channel_on edge sender receiver route = record { sender = sender; receiver = receiver; port = edge.port; route = route; marked = edge.back }

-- a hashed edge's channel takes the lanes of its subtask
abbrev pub route_to : EdgeRoute → (parallelism subtask : ℕ) → Route
route_to Hash parallelism subtask = Lanes parallelism subtask
route_to _ parallelism subtask = Every

-- from each of so many subtasks to the one of its number
abbrev pub forward_channels : EdgeSpec → (from to count : ℕ) → List Channel
forward_channels edge from to count = map (λ i. channel_on edge (from + i) (to + i) Every) (range_with_len 0 count)

-- from a task to each of so many subtasks
abbrev pub channels_to : EdgeSpec → (sender to count : ℕ) → List Channel
channels_to edge sender to count = map (λ i. channel_on edge sender (to + i) (route_to edge.route count i)) (range_with_len 0 count)

-- from each subtask to each
abbrev pub crossed_channels : EdgeSpec → (from senders to receivers : ℕ) → List Channel
crossed_channels edge from senders to receivers = flat_map (λ i. channels_to edge (from + i) to receivers) (range_with_len 0 senders)

abbrev pub is_forward : EdgeRoute → Bool
is_forward Forward = true
is_forward _ = false

abbrev pub edge_channels : List ℕ → EdgeSpec → List Channel
edge_channels parallelisms edge =
    if is_forward edge.route then forward_channels edge (first_task parallelisms edge.from) (first_task parallelisms edge.to) (slice_index parallelisms edge.from)
    else crossed_channels edge (first_task parallelisms edge.from) (slice_index parallelisms edge.from) (first_task parallelisms edge.to) (slice_index parallelisms edge.to)
