use Rattle.claims.proofs.Dues.{found_where}
use Rattle.claims.proofs.due.is_due.Goals as goal

pub returns-in-Operator : goal.returns-in-Operator
returns-in-Operator g c = rw (c.in-Operator.is, ← c.get.ensures, c.is_some.ensures) (found_where _ c.operand_channel.result c.operand_channel.ensures.some c.operand_channel.ensures.none)

pub returns-in-Sink : goal.returns-in-Sink
returns-in-Sink g c = rw (c.in-Sink.is, c.is_some-in-Sink.ensures) (found_where _ c.row_channel.result c.row_channel.ensures.some c.row_channel.ensures.none)
