use Rattle.std.proofs.Common.{arith}
use Rattle.counted_finishes.proofs.Endings.{rows_spend}
use Rattle.counted_finishes.proofs.counting.accept_rows.Goals as goal

pub returns-clause-serials : goal.returns-clause-serials
returns-clause-serials g c = rows_spend c.args.core.now _ c.accept_rows-records.new.self c.args.task c.args.input c.args.ahead.items c.accept_rows-records.result.0 (omega (arith, c.if-prove.false)) c.accept_rows-records.result.1 c.accept_rows-records.ensures.ends
