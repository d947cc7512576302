use Rattle.std.proofs.Common.{rules}
use Rattle.source_log.proofs.rows.Rows.copy.Goals as goal

pub returns-in-Ok-clause-fits : goal.returns-in-Ok-clause-fits
returns-in-Ok-clause-fits g c = c.self.invariant c.args.partition c.args.offset c.in-Ok.row (search rules)
