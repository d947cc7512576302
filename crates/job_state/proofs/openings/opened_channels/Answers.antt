use Rattle.std.proofs.Common.{◌<◌, [], length, refl, ◌∙◌, arith}
use Rattle.std.proofs.lemmas.Option.{slice_get_read}
use Rattle.job_state.proofs.Opening.{const_range, opened_length, opened_there, opened_nowhere}
use Rattle.job_state.proofs.openings.opened_channels.Goals as goal

pub loop-number-init : goal.loop-number-init
loop-number-init g c = c.in_ok-channels.ensures ∙ const_range [] 0 c.args.count

pub index_mut-requires : goal.index_mut-requires
index_mut-requires g c = omega (arith, c.if-number-count.true, opened_length c.loop-number.channels.items c.loop-number.yielded c.args.count c.loop-number.invariant, c.loop-number.channels.ok.0)

pub loop-number-preserved-in-Continue-branch-2 : goal.loop-number-preserved-in-Continue-branch-2
loop-number-preserved-in-Continue-branch-2 g c =
    let channels = c.loop-number.channels.items in
    let n = c.in-Some.number in
    let within : n < length channels = omega (arith, c.if-number-count.true, opened_length channels c.loop-number.yielded c.args.count c.loop-number.invariant) in
    let is = slice_get_read channels _ n c.index_mut.result.now refl within c.index_mut.ensures.value in
    opened_there channels c.loop-number.yielded c.args.count n c.in-Some.records c.index_mut.result.now c.fill.new.channel c.if-number-count.true is c.in_ok-fill.ensures c.loop-number.invariant

pub loop-number-preserved : goal.loop-number-preserved
loop-number-preserved g c = opened_nowhere c.loop-number.channels.items c.loop-number.yielded c.args.count c.in-Some.number c.in-Some.records (omega (arith, c.if-number-count.false)) c.loop-number.invariant
