use Rattle.std.proofs.Common.{refl}
use Rattle.job_state.proofs.Logging.{came_kept, records_dropped}
use Rattle.job_state.proofs.logs.drop_last.Goals as goal

pub returns-clause-came : goal.returns-clause-came
returns-clause-came g c = came_kept c.args.logs.now c.args.channel c.requires c.drop_last.new.self _ c.drop_last.ensures.after refl

pub returns-clause-logged : goal.returns-clause-logged
returns-clause-logged g c = records_dropped c.args.logs.now c.args.channel c.requires c.drop_last.new.self _ c.drop_last.ensures.after refl
