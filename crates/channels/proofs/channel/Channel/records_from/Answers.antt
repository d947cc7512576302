use Rattle.std.proofs.Common.{◌≡◌, ◌≤◌, ◌+◌, ◌++◌, length, drop, take, sym, ap, ◌∙◌, arith}
use Rattle.std.proofs.lemmas.List.{length-append}
use Rattle.channels.specs.Items.{leading_records}
use Rattle.channels.specs.Queues.{interleaved}
use Rattle.channels.proofs.Queues.{leading_within}
use Rattle.channels.proofs.First.{part_of_two, part_of_leading}
use Rattle.channels.proofs.channel.Channel.records_from.Goals as goal

pub overflow_add-end : goal.overflow_add-end
overflow_add-end g c =
    let barriers = c.self.inside.barriers.items in
    let records = c.self.inside.records.items in
    let seen : c.args.from + c.args.count ≤ length (leading_records c.args.self.now.items) = c.requires in
    let few = rw (← c.self.view_is) at seen in
    let sum = ap (λ l. length l) c.as_slices.ensures.items in
    omega (arith, few, leading_within barriers records, sum, length-append c.as_slices.result.0.now c.as_slices.result.1.now, c.as_slices.ensures.len, c.self.invariant.3)

pub returns : goal.returns
returns g c =
    let barriers = c.self.inside.barriers.items in
    let records = c.self.inside.records.items in
    let first = c.as_slices.result.0.now in
    let second = c.as_slices.result.1.now in
    let end = c.args.from + c.args.count in
    let seen : end ≤ length (leading_records c.args.self.now.items) = c.requires in
    let few : end ≤ length (leading_records (interleaved barriers records)) = rw (← c.self.view_is) at seen in
    let made : c.part.result.now ++ c.part-2.result.now ≡ drop c.args.from (take end records) =
    ap (λ l. l ++ c.part-2.result.now) c.part.ensures ∙ ap (λ l. drop c.args.from (take end first) ++ l) c.part-2.ensures ∙ sym (part_of_two first second c.args.from end c.saturating_sub.result c.saturating_sub-2.result c.saturating_sub.ensures c.saturating_sub-2.ensures) ∙ ap (λ l. drop c.args.from (take end l)) c.as_slices.ensures.items in
    rw (← c.self.view_is) (made ∙ sym (part_of_leading barriers records c.args.from c.args.count few))
