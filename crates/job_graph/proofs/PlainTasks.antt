-- The plain machine's graph of an expanded job.
use Rattle.std.proofs.Common.{◌≡◌, ◌∙◌, ℕ, List, Option, Some, option_map, slice_get, ap}
use Rattle.std.proofs.lemmas.Option.{slice_get-map}
use Rattle.dataflow_model.specs.Graph.{Task, Channel}
use Rattle.job_graph.specs.declared.role.Role.{Role}
use Rattle.job_graph.specs.Expanded.{Expanded, IsExpanded}
use Rattle.job_graph.specs.PlainGraph.{task_of, graph_of}

-- the task of a number is what its role says
pub tasks-graph_of : {O : Type 0} (graph : Expanded) (operators : List O) (task : ℕ) → slice_get (graph_of graph operators).tasks task ≡ option_map (task_of operators) (slice_get graph.tasks task)
tasks-graph_of graph operators task = slice_get-map (task_of operators) graph.tasks task

-- each channel leads to a task
pub receiver-graph_of : {O : Type 0} (graph : Expanded) (operators : List O) → IsExpanded graph → (number : ℕ) (channel : Channel) → slice_get (graph_of graph operators).channels number ≡ Some channel
    → (kind : Task O) × (slice_get (graph_of graph operators).tasks channel.receiver ≡ Some kind)
receiver-graph_of graph operators expanded number channel is =
    let receiver = (expanded.joined number channel is).receiver in
    (task_of operators receiver.role, tasks-graph_of graph operators channel.receiver ∙ ap (λ (o : Option Role). option_map (task_of operators) o) receiver.is)
