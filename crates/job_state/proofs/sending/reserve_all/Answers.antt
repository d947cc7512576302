use Rattle.std.proofs.Common.{◌<◌, length, get_or, arith, ap, ◌∙◌}
use Rattle.std.proofs.lemmas.List.{take_all}
use Rattle.std.proofs.lemmas.Option.{slice_get-get_or}
use Rattle.job_state.specs.Sending.{put_into}
use Rattle.job_state.proofs.Putting.{items_kept, room_reserved, put_more_of, is_there}
use Rattle.job_state.proofs.sending.reserve_all.Goals as goal

pub returns-in_default-clause-same : goal.returns-in_default-clause-same
returns-in_default-clause-same g c =
    let channels = c.loop-put.channels in
    let n = c.put-item.result.0 in
    let within : n < length channels = omega (arith, is_there (length c.args.channels.now) c.args.puts.now c.loop-put.put-index c.put-item.result c.requires (omega arith) c.put-item.is) in
    let was = get_or channels n c.index-channels-put.result in
    c.release_all.ensures.same ∙ items_kept channels n was c.reserve.new.self (slice_get-get_or channels n c.index-channels-put.result within) (ap (λ r. r.items) c.in_default.ensures.err) ∙ c.loop-put.invariant.same

pub loop-put-preserved : goal.loop-put-preserved
loop-put-preserved g c =
    let channels = c.loop-put.channels in
    let p = c.put-item.result in
    let within : p.0 < length channels = omega (arith, is_there (length c.args.channels.now) c.args.puts.now c.loop-put.put-index p c.requires (omega arith) c.put-item.is) in
    let was = get_or channels p.0 c.index-channels-put.result in
    let is = slice_get-get_or channels p.0 c.index-channels-put.result within in
    let more = room_reserved channels p.0 was c.reserve.new.self p.1 within is c.in-Ok.ensures.ok in
    record {
      same = items_kept channels p.0 was c.reserve.new.self is (ap (λ r. r.items) c.in-Ok.ensures.ok) ∙ c.loop-put.invariant.same;
      room = λ k. omega (arith, c.loop-put.invariant.room k, more k, put_more_of k c.args.puts.now c.loop-put.put-index p (omega arith) c.put-item.is);
    }

pub returns-clause-room : goal.returns-clause-room
returns-clause-room g c k =
    omega (arith, c.loop-put.invariant.room k, ap (λ l. length (put_into k l)) (take_all c.loop-put.put-index c.args.puts.now (omega arith)))
