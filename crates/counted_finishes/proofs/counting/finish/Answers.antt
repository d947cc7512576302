use Rattle.counted_finishes.proofs.Endings.{finish_ends}
use Rattle.counted_finishes.proofs.counting.finish.Goals as goal

pub returns-clause-claims : goal.returns-clause-claims
returns-clause-claims g c = finish_ends c.args.core.now _ c.finish.new.self c.args.done.attempt c.args.done.serial c.args.done.worked c.finish.result c.finish.ensures.ends
