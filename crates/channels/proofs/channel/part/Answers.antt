use Rattle.std.proofs.Common.{arith}
use Rattle.channels.proofs.First.{part_within}
use Rattle.channels.proofs.channel.part.Goals as goal

pub returns : goal.returns
returns g c = part_within c.args.records.now c.args.from c.args.end c.min-end.result c.min.result (omega (arith, c.min-end.ensures)) (omega (arith, c.min.ensures))
