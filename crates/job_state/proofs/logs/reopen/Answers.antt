use Rattle.std.proofs.Common.{not, arith}
use Rattle.std.proofs.lemmas.List.{length-map}
use Rattle.job_state.proofs.Logging.{came_reopened, records_reopened}
use Rattle.job_state.proofs.logs.reopen.Goals as goal

pub returns-clause-came : goal.returns-clause-came
returns-clause-came g c = came_reopened c.reopen.new.self _ c.reopen.ensures.fresh (omega (arith, c.reopen.ensures.channels, length-map c.args.logs.now (λ l. not l.is_open)))

pub returns-clause-logged : goal.returns-clause-logged
returns-clause-logged g c = records_reopened c.reopen.new.self _ c.reopen.ensures.fresh (omega (arith, c.reopen.ensures.channels, length-map c.args.logs.now (λ l. l.records)))
