-- A job's fault as one of a script.
use Rattle.job_spec.specs.declared.fault.JobFault.{JobFault}
use Rattle.job_spec.specs.declared.fault.JobFault.TheVariants as jobs
use Rattle.script_file.specs.declared.fault.ScriptFault.{ScriptFault}
use Rattle.script_file.specs.declared.fault.ScriptFault.TheVariants as whole

-- itself, unless memory was refused
abbrev pub fault_of : JobFault → ScriptFault
fault_of jobs.Memory = whole.Memory
fault_of f = whole.Job f
