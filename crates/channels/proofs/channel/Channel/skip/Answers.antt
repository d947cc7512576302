use Rattle.std.proofs.Common.{◌<◌, length, refl, ap, arith}
use Rattle.channels.proofs.Queues.{leading_gap, leading_within, gaps_skipped, records_skipped, last_skipped, contents}
use Rattle.channels.proofs.channel.Channel.skip.Goals as goal

pub take_away-requires : goal.take_away-requires
take_away-requires g c =
    let few = rw (← c.self.view_is) at c.requires in
    omega (arith, few, leading_within c.self.inside.barriers.items c.self.inside.records.items)

pub overflow_sub-barrier : goal.overflow_sub-barrier
overflow_sub-barrier g c =
    let few = rw (← c.self.view_is) at c.requires in
    let gap = leading_gap c.in-Some.barrier.now c.self.inside.barriers.items c.self.inside.records.items (omega (arith, c.in-Some.ensures.variant.0 refl)) c.in-Some.ensures.value (omega arith) in
    omega (arith, few, gap)

pub invariant_of-self : goal.invariant_of-self
invariant_of-self g c =
    let few = rw (← c.self.view_is) at c.requires in
    let some : 0 < length c.self.inside.barriers.items = omega (arith, c.in-Some.ensures.variant.0 refl) in
    let gap = leading_gap c.in-Some.barrier.now c.self.inside.barriers.items c.self.inside.records.items some c.in-Some.ensures.value (omega arith) in
    let nearer = gaps_skipped c.args.count c.in-Some.barrier.now c.self.inside.barriers.items some c.in-Some.ensures.value (omega (arith, few, gap)) in
    (omega (arith, nearer, c.take_away.ensures.len), omega (arith, c.take_away.ensures.len, c.take_away.ensures.capacity), omega arith, omega (arith, c.take_away.ensures.len), omega arith)

pub returns-in-Some : goal.returns-in-Some
returns-in-Some g c =
    let few = rw (← c.self.view_is) at c.requires in
    rw (← c.self.view_is)
    (ap (λ l. contents l c.self.inside.room)
    (records_skipped c.args.count c.in-Some.barrier.now c.self.inside.barriers.items c.self.inside.records.items c.take_away.new.records.items c.take_away.ensures.items (omega (arith, c.in-Some.ensures.variant.0 refl)) c.in-Some.ensures.value (omega arith) few))

pub returns-in-None : goal.returns-in-None
returns-in-None g c =
    rw (← c.self.view_is)
    (ap (λ l. contents l c.self.inside.room) (last_skipped c.args.count c.self.inside.barriers.items c.self.inside.records.items c.take_away.new.records.items c.take_away.ensures.items (omega (arith, c.in-None.ensures.item))))
