-- What a job becomes.
use Rattle.std.specs.Prelude.{◌≡◌, ℕ, ◌+◌, ◌<◌, ◌≤◌, ◌⊎◌, ◌&&◌, ◌||◌, ◌==◌, List, [], ◌∷◌, length, map, Bool, true, false, not, slice_get, slice_index, replicate, string_bytes, if◌then◌else◌}
use Rattle.std.specs.List.{list_any, flat_map, range_with_len}
use Rattle.std.specs.Option.{option_map_or}
use Rattle.dataflow_model.specs.Graph.{Channel}
use Rattle.job_spec.specs.declared.fault.JobFault.{JobFault}
use Rattle.job_spec.specs.declared.fault.JobFault.TheVariants as faults
use Rattle.job_spec.specs.declared.edge.EdgeSpec.{EdgeSpec}
use Rattle.job_spec.specs.Job.{Kind, source, sink, Vertex, Job, is_source}
use Rattle.job_graph.specs.declared.role.TaskKind.{TaskKind}
use Rattle.job_graph.specs.declared.role.TaskKind.TheVariants as task
pub use Rattle.job_channels.specs.Edges.{first_task, channel_on, route_to, forward_channels, channels_to, crossed_channels, is_forward, edge_channels}
use Rattle.job_graph.specs.Order.{AreLeft, IsAcyclic, IsInOrder}
use Rattle.job_graph.specs.Expanded.{Expanded, task_kind, IsNumbered}
use Rattle.job_graph.specs.Spelling.{spelling_of}

-- ---- tasks

abbrev pub kind_of : Kind → TaskKind
kind_of source = task.Source
kind_of sink = task.Sink
kind_of _ = task.Operator

-- a task for each subtask
abbrev pub subtasks_of : Vertex → List TaskKind
subtasks_of vertex = replicate vertex.parallelism (kind_of vertex.kind)

-- the vertices in file order, each with its subtasks
abbrev pub task_kinds_of : Job → List TaskKind
task_kinds_of job = flat_map subtasks_of job.vertices

abbrev pub parallelisms_of : List Vertex → List ℕ
parallelisms_of vertices = map (λ v. v.parallelism) vertices

-- ---- channels

abbrev pub channels_of : Job → List Channel
channels_of job = flat_map (edge_channels (parallelisms_of job.vertices)) job.edges

-- ---- order

-- the tasks of a vertex
abbrev pub block : List ℕ → ℕ → List ℕ
block parallelisms vertex = map (λ i. first_task parallelisms vertex + i) (range_with_len 0 (slice_index parallelisms vertex))

abbrev pub blocks : List ℕ → List ℕ → List ℕ
blocks parallelisms vertices = flat_map (block parallelisms) vertices

-- ---- the whole

pub record IsSmall (job : Job) : Type 0 where
  pub tasks : length (task_kinds_of job) ≤ 256
  pub channels : length (channels_of job) ≤ 4096

abbrev pub has_plain_input : List EdgeSpec → ℕ → Bool
has_plain_input edges vertex = list_any (λ e. not e.back && e.to == vertex) edges

-- The vertex is a source or has an unmarked inbound edge.
abbrev pub is_fed : Job → ℕ → Bool
is_fed job vertex = option_map_or (λ v. is_source v.kind || has_plain_input job.edges vertex) (slice_get job.vertices vertex) true

-- the names of these vertices, in file order
abbrev pub names_at : (ℕ → Bool) → ℕ → List Vertex → List (List ℕ)
names_at these i [] = []
names_at these i (v ∷ vs) = if these i then v.name ∷ names_at these (i + 1) vs else names_at these (i + 1) vs

-- The vertices in order: each is the first in file order that is ready, and none is left out.
pub record IsVertexOrder (job : Job) (vertices : List ℕ) : Type 0 where
  pub next : IsInOrder (length job.vertices) job.edges vertices
  pub whole : (v : ℕ) → v < length job.vertices → list_any (λ u. u == v) vertices ≡ true

pub record Expands (job : Job) (graph : Expanded) : Type 0 where
  pub tasks : map task_kind graph.tasks ≡ task_kinds_of job
  pub numbered : IsNumbered graph.tasks
  pub channels : graph.channels ≡ channels_of job
  pub vertices : List ℕ
  pub in_order : IsVertexOrder job vertices
  pub order : graph.order ≡ blocks (parallelisms_of job.vertices) vertices
  pub spelling : graph.spelling ≡ spelling_of job
  pub small : IsSmall job
  pub acyclic : IsAcyclic (length job.vertices) job.edges
  pub fed : (vertex : ℕ) → is_fed job vertex ≡ true

-- the vertices on cycles of unmarked edges and those behind them, by their names
pub record HasCycle (job : Job) (names : List (List ℕ)) : Type 0 where
  pub left : ℕ → Bool
  pub are_left : AreLeft (length job.vertices) job.edges left
  pub named : names ≡ names_at left 0 job.vertices
  pub some : (v : ℕ) × (left v ≡ true)

-- When each refusal comes.
abbrev pub Refuses : Job → JobFault → Type 0
Refuses job faults.TooMany = (256 < length (task_kinds_of job)) ⊎ (4096 < length (channels_of job))
Refuses job (faults.UnmarkedCycle found) = IsSmall job × HasCycle job (map string_bytes found.items)
Refuses job faults.NoPlainInput = IsSmall job × IsAcyclic (length job.vertices) job.edges × ((vertex : ℕ) × (is_fed job vertex ≡ false))
Refuses job faults.Memory = Unit {0}
Refuses job _ = ⊥
