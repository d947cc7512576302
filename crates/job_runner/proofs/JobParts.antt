-- What a job that was judged has for its core.
use Rattle.std.proofs.Common.{◌≡◌, ◌≤◌, ℕ, List, length, Result, Ok, Err}
use Rattle.job_spec.specs.declared.fault.JobFault.{JobFault}
use Rattle.job_spec.specs.Job.{Job, operators_of}
use Rattle.job_spec.specs.Reading.{◌>>=◌, value_at, job_at, job_of}
use Rattle.job_graph.specs.Expanded.{Expanded}
use Rattle.job_graph.specs.PlainGraph.{HaveOperators}
use Rattle.operators.specs.declared.row.Row.{Row}
use Rattle.absflow_run.proofs.JobTasks as tasks
use Rattle.job_input.specs.Judged.{IsJudged}
use Rattle.serde_json.specs.Data.{Data}

of_value : (given : Result Data JobFault) (j : Job) → (given >>= job_at) ≡ Ok j → (d : Data) × (job_at d ≡ Ok j)
of_value (Ok d) j h = (d, h)
of_value (Err e) j h = cc

job_was_read : (bytes : List ℕ) (j : Job) → job_of bytes ≡ Ok j → (d : Data) × (job_at d ≡ Ok j)
unfolding job_of
job_was_read bytes j h = of_value (value_at bytes) j h

pub has_task : (j : Job) (graph : Expanded) (partitions : List (List Row)) → IsJudged j graph partitions → 1 ≤ length graph.tasks
has_task j graph partitions judged =
    let read = job_was_read judged.0.0 j judged.0.1.0 in
    tasks.has_task read.0 j graph read.1 judged.0.1.1

pub have_operators : (j : Job) (graph : Expanded) (partitions : List (List Row)) → IsJudged j graph partitions → HaveOperators graph (operators_of j)
have_operators j graph partitions judged = tasks.have_operators j graph judged.0.1.1
