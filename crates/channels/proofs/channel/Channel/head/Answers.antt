use Rattle.std.proofs.Common.{◌≡◌, length, refl, arith}
use Rattle.channels.specs.Items.{leading_records}
use Rattle.channels.proofs.Queues.{first_is_record, none_leads, barrier_first, nothing_first}
use Rattle.channels.proofs.channel.Channel.head.Goals as goal

pub returns-in-Some : goal.returns-in-Some
returns-in-Some g c = first_is_record c.args.self.now.items c.in-Some.record.now c.in-Some.ensures

pub returns-in_err-front-in-None : goal.returns-in_err-front-in-None
returns-in_err-front-in-None g c =
    let lead = none_leads (leading_records c.args.self.now.items) c.in-None.ensures in
    let none : length c.self.inside.barriers.items ≡ 0 = omega (arith, c.in_err-front-in-None.ensures.item) in
    rw (c.from_residual.ensures, ← c.self.view_is) (nothing_first c.self.inside.barriers.items c.self.inside.records.items none (rw (← c.self.view_is) at lead))

pub returns-in_ok-front-in-None : goal.returns-in_ok-front-in-None
returns-in_ok-front-in-None g c =
    let lead = none_leads (leading_records c.args.self.now.items) c.in-None.ensures in
    rw (← c.self.view_is) (barrier_first c.in_ok-front-in-None.field-0.now c.self.inside.barriers.items c.self.inside.records.items (omega (arith, c.in_ok-front-in-None.ensures.variant.0 refl)) c.in_ok-front-in-None.ensures.lookup (rw (← c.self.view_is) at lead) (omega arith))
