-- What a job's fault is to the run: want of memory is told as such, and any other fault as itself.
use Rattle.job_input.specs.declared.fault.InputFault.{InputFault}
use Rattle.job_input.specs.declared.fault.InputFault.TheVariants as whole
use Rattle.job_spec.specs.declared.fault.JobFault.{JobFault}
use Rattle.job_spec.specs.declared.fault.JobFault.TheVariants as job

abbrev pub tells_job : JobFault → InputFault
tells_job job.Memory = whole.Memory
tells_job fault = whole.Job fault
