use Rattle.std.proofs.Common.{◌<◌, ◌∷◌, [], length, take, subst, sym, arith, ap, ◌∙◌}
use Rattle.std.specs.Prelude.{IfSome}
use Rattle.std.proofs.lemmas.List.{length-set, length-append, map-append, take_more_set}
use Rattle.channels.specs.declared.item.Item.TheVariants.{Record}
use Rattle.deliveries.specs.Deliveries.{IsRunOf}
use Rattle.job_state.specs.Sending.{put_into, as_puts, waiting_at}
use Rattle.job_state.proofs.Departures.{outlets_below, goes_among, lane_known, row_told, left_behind}
use Rattle.job_state.proofs.Putting.{waits_more, waits_none, put_into_append}
use Rattle.job_state.proofs.ready.reserve_rows.Goals as goal

-- the channels are those of the record's port
pub run_target-target-requires-clause-run : goal.run_target-target-requires-clause-run
run_target-target-requires-clause-run g c =
    let seen = c.index.result.now in
    subst (λ k. IfSome k (λ numbers. IsRunOf c.args.graph.now c.args.task seen.0 numbers.now)) (sym c.run_at.ensures ∙ c.in-Some.is) (c.requires.known seen.0)

-- the lane that is told of the record is its own
pub run_target-target-requires-clause-known : goal.run_target-target-requires-clause-known
run_target-target-requires-clause-known g c =
    let rows = c.loop-place.rows.items in
    let old = c.args.rows.now.items in
    let i = c.loop-place.place in
    let met : i < length old = omega arith in
    let inside : i < length rows = omega (arith, met, c.loop-place.invariant.same_length) in
    lane_known g.O.Operator.meaning c.args.graph.now c.args.task rows old c.args.lanes.now i c.index.result.now c.lane_at-known.result inside met c.loop-place.invariant.others c.index.ensures c.requires.lanes c.lane_at-known.ensures

pub loop-place-preserved : goal.loop-place-preserved
loop-place-preserved g c =
    let meaning = g.O.Operator.meaning in
    let graph = c.args.graph.now in
    let channels = c.wait_for.new.channels in
    let n = c.run_target-target.result in
    let rows = c.loop-place.rows.items in
    let old = c.args.rows.now.items in
    let i = c.loop-place.place in
    let w = c.wait_for.new.waiting in
    let seen = c.index.result.now in
    let row = c.index_mut.result.now in
    let goes = c.run_target-target.ensures in
    let within : n < length channels = omega (arith, goes_among meaning graph c.args.task (λ k. k < length graph.channels) seen.0 seen.1 n (outlets_below meaning graph c.args.task seen.0) goes, c.requires.channels, c.wait_for.auto.channels) in
    let met : i < length old = omega arith in
    let inside : i < length rows = omega (arith, met, c.loop-place.invariant.same_length) in
    let others = c.loop-place.invariant.others in
    record {
      same = c.wait_for.ensures.same ∙ c.loop-place.invariant.same;
      same_length = length-set rows i (n, row.1) ∙ c.loop-place.invariant.same_length;
      others = left_behind rows old i seen (n, row.1) inside met others;
      puts = row_told meaning graph c.args.task rows old i n seen row inside met others c.index.ensures c.index_mut.ensures.value goes c.loop-place.invariant.puts;
      bounded = omega (arith, c.in_ok-wait_for.ensures.more, c.loop-place.invariant.bounded);
      inside = λ some. omega (arith, within, c.in_ok-wait_for.ensures.target);
      room = λ k.
          omega (
            arith,
            c.loop-place.invariant.room k,
            c.in_ok-wait_for.ensures.room k,
            ap (λ m. waiting_at m w k) c.in_ok-wait_for.ensures.target,
            waits_more n 0 k (Record row.1),
            waits_none n k,
            ap (λ l. length (put_into k l)) (ap as_puts (take_more_set rows i (n, row.1) inside) ∙ map-append (λ p. (p.0, Record p.1)) (take i rows) ((n, row.1) ∷ [])),
            ap (λ l. length l) (put_into_append k (as_puts (take i rows)) ((n, Record row.1) ∷ [])),
            length-append (put_into k (as_puts (take i rows))) (put_into k ((n, Record row.1) ∷ [])),
          );
    }
