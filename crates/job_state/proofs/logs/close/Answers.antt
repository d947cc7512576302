use Rattle.std.proofs.Common.{not, refl, arith}
use Rattle.std.proofs.lemmas.List.{length-map}
use Rattle.job_state.proofs.Logging.{came_set, records_kept}
use Rattle.job_state.proofs.logs.close.Goals as goal

pub returns-clause-came : goal.returns-clause-came
returns-clause-came g c = came_set c.args.logs.now c.args.channel (omega (arith, c.requires, length-map c.args.logs.now (λ l. not l.is_open))) c.close.new.self _ c.close.ensures

pub returns-clause-logged : goal.returns-clause-logged
returns-clause-logged g c = records_kept c.args.logs.now c.args.channel (omega (arith, c.requires, length-map c.args.logs.now (λ l. not l.is_open))) c.close.new.self _ c.close.ensures refl
