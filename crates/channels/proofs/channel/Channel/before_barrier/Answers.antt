use Rattle.std.proofs.Common.{◌≡◌, length, arith, refl, ◌∙◌}
use Rattle.channels.proofs.Queues.{leading_gap, leading_length}
use Rattle.channels.proofs.channel.Channel.before_barrier.Goals as goal

pub returns-in-Some : goal.returns-in-Some
returns-in-Some g c = rw (← c.self.view_is) (leading_gap c.in-Some.barrier.now c.self.inside.barriers.items c.self.inside.records.items (omega (arith, c.in-Some.ensures.variant.0 refl)) c.in-Some.ensures.lookup (omega arith))

pub returns-in-None : goal.returns-in-None
returns-in-None g c =
    let long : c.len.result ≡ length c.self.inside.records.items = omega arith in
    let none : length c.self.inside.barriers.items ≡ 0 = omega (arith, c.in-None.ensures.item) in
    rw (← c.self.view_is) (long ∙ leading_length c.self.inside.barriers.items c.self.inside.records.items none)
