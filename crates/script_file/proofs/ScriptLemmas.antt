-- From the parts of a script to the whole.
use Rattle.std.proofs.Common.{inl, inr, Result, Ok, Err, count_by, refl}
use Rattle.job_spec.specs.declared.fault.JobFault.{JobFault}
use Rattle.job_spec.specs.declared.fault.JobFault.TheVariants as jobs
use Rattle.job_spec.specs.Job.{Job}
use Rattle.job_spec.specs.Reading as job
use Rattle.job_graph.specs.Expanded.{Expanded, is_source}
use Rattle.job_graph.specs.Expansion.{Expands, Refuses}
use Rattle.script_file.specs.declared.fault.ScriptFault.{ScriptFault}
use Rattle.script_file.specs.declared.fault.ScriptFault.TheVariants as whole
use Rattle.script_file.specs.Contents.{contents_at}
use Rattle.script_file.specs.Faults.{Fails}
use Rattle.script_file.specs.JobFaults.{fault_of}
use Rattle.script_file.specs.Outline.{Outline}
use Rattle.script_file.specs.Script.{of_job, Reads}

-- a job's fault is the script's
pub job_fails : (f : JobFault) (given : Result Job JobFault) → job.Fails f given → Fails (fault_of f) (of_job given)
job_fails jobs.Memory given h = tt
job_fails f given h = rw h refl

-- a fault of the members or the job is the whole's
pub fails_reads : (e : ScriptFault) (head : Result (Outline × Job) ScriptFault) → Fails e head → Reads head (Err e)
fails_reads whole.Memory head h = tt
fails_reads e head h = rw h refl

-- a job without a graph refuses the script
pub refused_reads : (outline : Outline) (j : Job) (f : JobFault) → Refuses j f → Reads (Ok (outline, j)) (Err (fault_of f))
refused_reads outline j jobs.Memory h = tt
refused_reads outline j f h = inl (f, h, refl)

-- a fault of the rest is the whole's
pub contents_reads : (outline : Outline) (j : Job) (graph : Expanded) (e : ScriptFault) → Expands j graph → Fails e (contents_at (count_by is_source graph.tasks) outline) → Reads (Ok (outline, j)) (Err e)
contents_reads outline j graph whole.Memory x h = tt
contents_reads outline j graph e x h = inr (graph, x, rw h refl)
