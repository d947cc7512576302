use Rattle.std.proofs.Common.{refl}
use Rattle.job_state.proofs.Logging.{came_kept, records_kept}
use Rattle.job_state.proofs.logs.reserve_log.Goals as goal

pub returns-in_err-reserve-clause-came : goal.returns-in_err-reserve-clause-came
returns-in_err-reserve-clause-came g c = came_kept c.args.logs.now c.args.channel c.requires c.reserve.new.self _ c.reserve.ensures.same refl

pub returns-in_err-reserve-clause-logged : goal.returns-in_err-reserve-clause-logged
returns-in_err-reserve-clause-logged g c = records_kept c.args.logs.now c.args.channel c.requires c.reserve.new.self _ c.reserve.ensures.same refl

pub returns-in_ok-reserve-clause-came : goal.returns-in_ok-reserve-clause-came
returns-in_ok-reserve-clause-came g c = came_kept c.args.logs.now c.args.channel c.requires c.reserve.new.self _ c.reserve.ensures.same refl

pub returns-in_ok-reserve-clause-logged : goal.returns-in_ok-reserve-clause-logged
returns-in_ok-reserve-clause-logged g c = records_kept c.args.logs.now c.args.channel c.requires c.reserve.new.self _ c.reserve.ensures.same refl
