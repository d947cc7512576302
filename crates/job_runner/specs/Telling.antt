-- What a run is given up for, by the fault that was met: want of memory is told as such, a job's fault as `check` tells it, and any other fault as itself.
use Rattle.absflow_run.specs.declared.refusal.Refusal.TheVariants as refusal
use Rattle.job_input.specs.declared.fault.InputFault.{InputFault}
use Rattle.job_input.specs.declared.fault.InputFault.TheVariants as input
use Rattle.job_runner.specs.declared.refusal.RunRefusal.{RunRefusal}
use Rattle.job_runner.specs.declared.refusal.RunRefusal.TheVariants as whole
use Rattle.run_schedule.specs.declared.fault.RunFault.{RunFault}
use Rattle.run_schedule.specs.declared.fault.RunFault.TheVariants as run

abbrev pub tells_input : InputFault → RunRefusal
tells_input (input.Job fault) = whole.Other (refusal.Job fault)
tells_input input.Memory = whole.Other refusal.Memory
tells_input fault = whole.Input fault

abbrev pub tells_run : RunFault → RunRefusal
tells_run run.Memory = whole.Other refusal.Memory
tells_run fault = whole.Run fault
