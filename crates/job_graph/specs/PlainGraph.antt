-- The graph of the plain machine that an expanded job is, with an operator for each operator task.
use Rattle.std.specs.Prelude.{◌≡◌, List, map, count_by, length, Option, Some, None, slice_get}
use Rattle.dataflow_model.specs.Graph.{Graph, Task, SourceTask, OperatorTask, SinkTask}
use Rattle.job_graph.specs.declared.role.Role.{Role}
use Rattle.job_graph.specs.declared.role.Role.TheVariants.{Source, Operator, Sink}
use Rattle.job_graph.specs.Expanded.{Expanded, is_operator}

module _ {O : Type 0} where
  -- an operator task that no operator was given for is a sink
  abbrev pub operator_task : Option O → Task O
  operator_task (Some operator) = OperatorTask operator
  operator_task None = SinkTask

  -- a source with its partition, an operator with its value, or a sink
  abbrev pub task_of : List O → Role → Task O
  task_of operators (Source partition) = SourceTask partition
  task_of operators (Operator number) = operator_task (slice_get operators number)
  task_of operators (Sink subtask) = SinkTask

  abbrev pub graph_of : Expanded → List O → Graph O
  graph_of graph operators = record { tasks = map (task_of operators) graph.tasks; channels = graph.channels }

  -- an operator for each operator task
  abbrev pub HaveOperators : Expanded → List O → Type 0
  HaveOperators graph operators = length operators ≡ count_by is_operator graph.tasks
