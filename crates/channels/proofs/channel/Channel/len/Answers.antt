use Rattle.std.proofs.Common.{arith}
use Rattle.channels.proofs.Queues.{length-interleaved}
use Rattle.channels.proofs.channel.Channel.len.Goals as goal

pub returns : goal.returns
returns g c = rw (← c.self.view_is) (omega (arith, length-interleaved c.self.inside.barriers.items c.self.inside.records.items (omega arith)))
