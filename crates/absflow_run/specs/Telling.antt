-- What the program gives up for, by the fault that it met: want of memory is told as such, whoever was refused it, and any other fault as itself.
use Rattle.std.specs.Prelude.{◌≡◌, ◌≢◌}
use Rattle.absflow_run.specs.declared.refusal.Refusal.{Refusal}
use Rattle.absflow_run.specs.declared.refusal.Refusal.TheVariants as refusal
use Rattle.job_spec.specs.declared.fault.JobFault.{JobFault}
use Rattle.job_spec.specs.declared.fault.JobFault.TheVariants as job
use Rattle.script_file.specs.declared.fault.ScriptFault.{ScriptFault}
use Rattle.script_file.specs.declared.fault.ScriptFault.TheVariants as script

abbrev pub TellsJob : JobFault → Refusal → Type 0
TellsJob fault e = (fault ≡ job.Memory → e ≡ refusal.Memory) × (fault ≢ job.Memory → e ≡ refusal.Job fault)

-- a script that is refused for its job is refused as the job would be
abbrev pub TellsScript : ScriptFault → Refusal → Type 0
TellsScript fault e =
    (fault ≡ script.Memory → e ≡ refusal.Memory)
    × ((inner : JobFault) → fault ≡ script.Job inner → TellsJob inner e)
    × (fault ≢ script.Memory → ((inner : JobFault) → fault ≢ script.Job inner) → e ≡ refusal.Script fault)
