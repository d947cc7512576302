use Rattle.job_runner.proofs.JobParts.{has_task, have_operators}
use Rattle.job_runner.proofs.running.run_judged.Goals as goal

pub open-requires-clause-tasks : goal.open-requires-clause-tasks
open-requires-clause-tasks g c = has_task _ _ _ c.requires.judged

pub open-requires-clause-operators : goal.open-requires-clause-operators
open-requires-clause-operators g c = have_operators _ _ _ c.requires.judged
