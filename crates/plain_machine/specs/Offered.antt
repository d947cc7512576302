-- The record that a move would take, as a function: what the program looks up.
use Rattle.std.specs.Prelude.{ℕ, ◌==◌, ◌&&◌, Bool, true, false, List, slice_get, Option, Some, None, if◌then◌else◌}
use Rattle.dataflow_model.specs.Graph.{Task, SourceTask, OperatorTask, SinkTask, Channel, Job}
use Rattle.dataflow_model.specs.Machine.{Configuration, Move, Read, Work}

abbrev pub has_inputs : {O : Type 0} → Task O → Bool
has_inputs (SourceTask partition) = false
has_inputs (OperatorTask operator) = true
has_inputs SinkTask = true

abbrev pub next_of : {R O : Type 0} → (ℕ → List R) → Option (Task O) → ℕ → Option R
next_of partitions None offset = None
next_of partitions (Some (SourceTask partition)) offset = slice_get (partitions partition) offset
next_of partitions (Some (OperatorTask operator)) offset = None
next_of partitions (Some SinkTask) offset = None

abbrev pub first_of : {R O : Type 0} → Option (Task O) → Option Channel → ℕ → List R → Option R
first_of None channel task records = None
first_of (Some kind) None task records = None
first_of (Some kind) (Some channel) task records = if has_inputs kind && (channel.receiver == task) then slice_get records 0 else None

abbrev pub offered : {R K S O : Type 0} → Job R K S O → Move → Configuration R K S → Option R
offered job (Read task) c = next_of job.partitions (slice_get job.graph.tasks task) (c.tasks task).offset
offered job (Work task input) c = first_of (slice_get job.graph.tasks task) (slice_get job.graph.channels input) task (c.channels input)
