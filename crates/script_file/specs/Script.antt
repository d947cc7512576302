-- Whole scripts.
use Rattle.std.specs.Prelude.{◌≡◌, ◌⊎◌, ℕ, List, count_by, Result, Ok, Err}
use Rattle.serde_json.specs.Data.{Data}
use Rattle.job_spec.specs.declared.fault.JobFault.{JobFault}
use Rattle.job_spec.specs.Job.{Job}
use Rattle.job_spec.specs.Reading.{job_at}
use Rattle.job_graph.specs.Expanded.{Expanded, is_source}
use Rattle.job_graph.specs.Expansion.{Expands, Refuses}
use Rattle.script_file.specs.declared.script.Script as code
use Rattle.script_file.specs.declared.fault.ScriptFault.{ScriptFault}
use Rattle.script_file.specs.declared.fault.ScriptFault.TheVariants as whole
use Rattle.script_file.specs.Contents.{Contents, contents_view, contents_at}
use Rattle.script_file.specs.Faults.{◌>>=◌, Gives}
use Rattle.script_file.specs.JobFaults.{fault_of}
use Rattle.script_file.specs.Json.{value_of}
use Rattle.script_file.specs.Outline.{Outline, outline_at}

-- what reading a job gave, as a part of a script
abbrev pub of_job : {A : Type 0} → Result A JobFault → Result A ScriptFault
of_job (Ok x) = Ok x
of_job (Err f) = Err (fault_of f)

-- the members of a script, and its job
unfoldable pub head_at : Data → Result (Outline × Job) ScriptFault
head_at d = do
  outline ← outline_at d
  job ← of_job (job_at outline.job)
  Ok (outline, job)

unfoldable pub head_of : List ℕ → Result (Outline × Job) ScriptFault
head_of bytes = value_of bytes >>= head_at

-- the job has no graph, for this reason
abbrev pub RefusesJob : Job → Result code.Script ScriptFault → Type 0
RefusesJob job result = (f : JobFault) × Refuses job f × (result ≡ Err (fault_of f))

-- the script has the job, a graph of it, and what the outline holds for so many sources, or that has a fault
abbrev pub ReadsContents : Outline → Job → Result code.Script ScriptFault → Type 0
ReadsContents outline job result =
    (graph : Expanded) × Expands job graph
    × Gives {Y = Job × Expanded × Contents} (λ s. (s.job, s.graph, contents_view s.contents)) result (contents_at (count_by is_source graph.tasks) outline >>= λ contents. Ok (job, graph, contents))

-- What was answered of a script of which these are the members and the job, or the first fault: unless memory was refused,
-- that fault, then the job's for want of a graph, then what the rest gives.
abbrev pub Reads : Result (Outline × Job) ScriptFault → Result code.Script ScriptFault → Type 0
Reads head (Err whole.Memory) = Unit {0}
Reads (Err e) result = result ≡ Err e
Reads (Ok head) result = RefusesJob head.1 result ⊎ ReadsContents head.0 head.1 result
