use Rattle.std.proofs.Common.{◌<◌, length, sym, ◌∙◌, arith}
use Rattle.std.proofs.lemmas.Option.{slice_get_past}
use Rattle.channels.specs.Items.{leading_records}
use Rattle.channels.proofs.Queues.{leading_get, leading_within, lent}
use Rattle.channels.proofs.channel.Channel.record.Goals as goal

pub returns-then-index-before_barrier : goal.returns-then-index-before_barrier
returns-then-index-before_barrier g c =
    let barriers = c.self.inside.barriers.items in
    let records = c.self.inside.records.items in
    let seen : c.args.index < length (leading_records c.args.self.now.items) = omega arith in
    let leads = rw (← c.self.view_is) at seen in
    let within : c.args.index < length records = omega (arith, leading_within barriers records) in
    rw (← c.self.view_is) (lent records c.args.index c.get.result (c.get.ensures.variant.1 (omega arith)) c.get.ensures.lookup within ∙ leading_get barriers records c.args.index leads)

pub returns-else-index-before_barrier : goal.returns-else-index-before_barrier
returns-else-index-before_barrier g c = sym (slice_get_past (leading_records c.args.self.now.items) c.args.index (omega arith))
