use Rattle.std.proofs.Common.{◌∙◌, sym}
use Rattle.absflow_run.proofs.ScriptParts.{read_whole}
use Rattle.absflow_run.proofs.running.run.Goals as goal

pub rows_log-requires : goal.rows_log-requires
rows_log-requires g c = (read_whole c.deref.result.now c.in_ok-job.field-0 c.in_ok-job.ensures).partitions ∙ sym c.sources.ensures

pub open-requires-clause-tasks : goal.open-requires-clause-tasks
open-requires-clause-tasks g c = (read_whole c.deref.result.now c.in_ok-job.field-0 c.in_ok-job.ensures).task

pub open-requires-clause-operators : goal.open-requires-clause-operators
open-requires-clause-operators g c = (read_whole c.deref.result.now c.in_ok-job.field-0 c.in_ok-job.ensures).operators
