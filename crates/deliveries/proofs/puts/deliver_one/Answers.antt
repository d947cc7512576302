use Rattle.std.proofs.Common.{◌+◌, ◌++◌, [], ◌∷◌, length, filter, take, slice_index, ap, sym, ◌∙◌, arith}
use Rattle.std.proofs.lemmas.List.{append-nil}
use Rattle.channels.specs.declared.item.Item.TheVariants.{Record}
use Rattle.deliveries.specs.Deliveries.{delivered_last}
use Rattle.job_graph.specs.Expanded.{meets, takes}
use Rattle.deliveries.proofs.Delivered.{delivered, through_run, met_one, met_none}
use Rattle.deliveries.proofs.puts.deliver_one.Goals as goal
use Rattle.deliveries.proofs.puts.deliver_one.Goals.{in-Some+in-Some-last+in_ok-copied+in_ok-push, in-Some+in_default-last, in_default}

pub loop-place-preserved : goal.loop-place-preserved
loop-place-preserved g c =
    let row = c.args.row in
    let place = c.loop-place.place in
    let numbers = c.outlets-numbers.result.now in
    let test = meets (takes (g.O.Operator.meaning.lane row)) c.args.graph.now.channels in
    let run = slice_index c.runs-runs.result.now place in
    let long = ap length c.outlets-numbers.ensures in
    let is = c.runs-runs.ensures.each place (omega (arith, long, c.loop-place-test.true)) in
    let before = c.args.puts.now.items in
    let held = c.loop-place.invariant.1 in
    let puts = c.loop-place.puts.items in
    let last = c.loop-place.last in
    let met = filter test (take place numbers) in
    let met' = filter test (take (place + run) numbers) in (
      omega (arith, is.within, long),
      elim c.match-target.branch [
        | in-Some+in-Some-last+in_ok-copied+in_ok-push w ↦
            met_one row before puts c.match-target.puts.items last c.match-target.last met met' w.in-Some.number (through_run test place run numbers (w.in-Some.number ∷ []) w.in-Some.ensures) w.last-is
            (ap (λ v. v.items) w.puts-is ∙ w.in_ok-push.ensures.items ∙ ap (λ r. puts ++ (w.in-Some-last.previous, Record r) ∷ []) w.in_ok-copied.ensures ∙ ap (λ o. puts ++ delivered_last row o) (sym w.in-Some-last.is))
            held
        | in-Some+in_default-last w ↦
            met_one row before puts c.match-target.puts.items last c.match-target.last met met' w.in-Some.number (through_run test place run numbers (w.in-Some.number ∷ []) w.in-Some.ensures) w.last-is
            (ap (λ v. v.items) w.puts-is ∙ sym (append-nil puts) ∙ ap (λ o. puts ++ delivered_last row o) (sym w.in_default-last.is))
            held
        | in_default w ↦
            met_none row before puts c.match-target.puts.items last c.match-target.last met met' (through_run test place run numbers [] w.in_default.ensures) w.last-is (ap (λ v. v.items) w.puts-is) held
      ],
    )

pub returns-in_ok-push-2 : goal.returns-in_ok-push-2
returns-in_ok-push-2 g c =
    let row = c.args.row in
    c.in_ok-push-2.ensures.items
    ∙ ap (λ o. c.loop-place.puts.items ++ delivered_last row o) (sym c.in-Some-last-2.is)
    ∙ delivered g.O.Operator.meaning c.args.graph.now c.args.task c.args.port row c.outlets-numbers.result.now c.loop-place.place c.args.puts.now.items c.loop-place.puts.items c.loop-place.last
    c.outlets-numbers.ensures (omega arith) c.loop-place.invariant.1

pub returns-in_default-last-2 : goal.returns-in_default-last-2
returns-in_default-last-2 g c =
    let row = c.args.row in
    sym (append-nil c.loop-place.puts.items)
    ∙ ap (λ o. c.loop-place.puts.items ++ delivered_last row o) (sym c.in_default-last-2.is)
    ∙ delivered g.O.Operator.meaning c.args.graph.now c.args.task c.args.port row c.outlets-numbers.result.now c.loop-place.place c.args.puts.now.items c.loop-place.puts.items c.loop-place.last
    c.outlets-numbers.ensures (omega arith) c.loop-place.invariant.1
