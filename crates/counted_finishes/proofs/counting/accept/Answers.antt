use Rattle.counted_finishes.proofs.Endings.{accept_uses}
use Rattle.counted_finishes.proofs.counting.accept.Goals as goal

pub returns-clause-serials : goal.returns-clause-serials
returns-clause-serials g c = accept_uses c.args.core.now _ c.accept.new.self c.args.task c.args.input c.args.worked c.accept.result c.accept.ensures.ends
