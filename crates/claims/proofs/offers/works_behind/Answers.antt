use Rattle.std.proofs.Common.{◌≡◌, ◌-◌, ◌++◌, length, map, min, take, drop, sym, ap, ◌∙◌, arith}
use Rattle.std.proofs.lemmas.List.{map-append, length-append, length-map, length-take}
use Rattle.channels.specs.Items.{leading_records}
use Rattle.job_state.specs.Sending.{items_at}
use Rattle.claims.specs.declared.parts.Given.TheVariants as given
use Rattle.claims.proofs.Leading.{all_behind}
use Rattle.claims.proofs.offers.works_behind.Goals as goal

pub offer_each-requires : goal.offer_each-requires
offer_each-requires g c =
    let works = c.in_ok-works.works in
    let leading = leading_records (items_at c.args.attempt.now.channels c.args.channel) in
    record {
      room = omega (arith, works.ok.0, ap (λ l. length l) c.in_ok-works.ensures.items, c.in_ok-works.ensures.capacity, ap (λ l. length l) c.records.ensures, length-append c.records.result.0.now c.records.result.1.now, length-take c.min-count.result (drop 1 leading));
    }

pub offer_each-requires-2 : goal.offer_each-requires-2
offer_each-requires-2 g c =
    let work = λ (row : g.row.O-Record.Denot). given.Sink row in
    let works = c.offer_each.new.works in
    let first = c.records.result.0.now in
    let leading = leading_records (items_at c.args.attempt.now.channels c.args.channel) in
    record {
      room = omega (arith, works.ok.0, ap (λ l. length l) c.in_ok-offer_each.ensures.rows, length-append c.in_ok-works.works.items (map work first), length-map first work, ap (λ l. length l) c.in_ok-works.ensures.items, c.in_ok-offer_each.ensures.room, c.in_ok-works.ensures.capacity, ap (λ l. length l) c.records.ensures, length-append first c.records.result.1.now, length-take c.min-count.result (drop 1 leading));
    }

pub returns-clause-rows : goal.returns-clause-rows
returns-clause-rows g c =
    let work = λ (row : g.row.O-Record.Denot). given.Sink row in
    let leading = leading_records (items_at c.args.attempt.now.channels c.args.channel) in
    let first = c.records.result.0.now in
    let second = c.records.result.1.now in
    let least : c.min-count.result ≡ min c.args.most (length leading - 1) = omega (arith, c.min-count.ensures, c.saturating_sub.ensures, c.before_barrier.ensures) in
    let is : c.offer_each-2.new.works.items ≡ map work (take c.min-count.result (drop 1 leading)) =
    c.in_ok-offer_each-2.ensures.rows ∙ ap (λ l. l ++ map work second) (c.in_ok-offer_each.ensures.rows ∙ ap (λ l. l ++ map work first) c.in_ok-works.ensures.items) ∙ sym (map-append work first second) ∙ ap (map work) c.records.ensures in
    all_behind work leading c.offer_each-2.new.works.items c.min-count.result c.args.most least is
