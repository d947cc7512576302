use Rattle.std.proofs.Common.{length, drop, ap, arith}
use Rattle.std.proofs.lemmas.List.{length-append, length-take}
use Rattle.channels.specs.Items.{leading_records}
use Rattle.job_state.specs.Sending.{items_at}
use Rattle.claims.proofs.offers.gather.Goals as goal

pub gather_each-requires-clause-room : goal.gather_each-requires-clause-room
gather_each-requires-clause-room g c =
    let rows = c.in_ok-take_rows.field-0 in
    let leading = leading_records (items_at c.args.attempt.now.channels c.args.channel) in
    omega (arith, rows.ok.0, ap (λ l. length l) c.in_ok-take_rows.ensures.none, c.in_ok-take_rows.ensures.room, ap (λ l. length l) c.records.ensures, length-append c.records.result.0.now c.records.result.1.now, length-take c.args.count (drop 0 leading))

pub gather_each-requires-2-clause-room : goal.gather_each-requires-2-clause-room
gather_each-requires-2-clause-room g c =
    let before = c.in_ok-take_rows.field-0 in
    let rows = c.gather_each.new.gathered.rows in
    let leading = leading_records (items_at c.args.attempt.now.channels c.args.channel) in
    let first = c.records.result.0.now in
    omega (arith, rows.ok.0, ap (λ l. length l) c.in_ok-gather_each.ensures.rows, length-append before.items first, ap (λ l. length l) c.in_ok-take_rows.ensures.none, c.gather_each.ensures.room, c.in_ok-take_rows.ensures.room, ap (λ l. length l) c.records.ensures, length-append first c.records.result.1.now, length-take c.args.count (drop 0 leading))
