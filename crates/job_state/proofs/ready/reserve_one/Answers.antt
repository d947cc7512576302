use Rattle.std.proofs.Common.{◌<◌, length, get_or, slice_set, ap, arith}
use Rattle.std.proofs.lemmas.Option.{slice_get-get_or}
use Rattle.job_state.proofs.Places.{get_set_same}
use Rattle.job_state.proofs.Putting.{items_kept, room_here}
use Rattle.job_state.proofs.ready.reserve_one.Goals as goal

pub returns-in_err-reserve-clause-same : goal.returns-in_err-reserve-clause-same
returns-in_err-reserve-clause-same g c =
    let channels = c.args.channels.now in
    let n = c.args.number in
    let was = get_or channels n c.index-channels-number.result in
    items_kept channels n was c.reserve.new.self (slice_get-get_or channels n c.index-channels-number.result (omega (arith, c.requires))) (ap (λ r. r.items) c.in_err-reserve.ensures.err)

pub returns-clause-same : goal.returns-clause-same
returns-clause-same g c =
    let channels = c.args.channels.now in
    let n = c.args.number in
    let was = get_or channels n c.index-channels-number.result in
    items_kept channels n was c.reserve.new.self (slice_get-get_or channels n c.index-channels-number.result (omega (arith, c.requires))) (ap (λ r. r.items) c.in_ok-reserve.ensures.ok)

pub returns-clause-room : goal.returns-clause-room
returns-clause-room g c =
    let channels = c.args.channels.now in
    let n = c.args.number in
    let new = c.reserve.new.self in
    let next = slice_set channels n new in
    let within : n < length channels = omega (arith, c.requires) in
    omega (arith, room_here next n new (get_set_same channels n new within), ap (λ r. r.room) c.in_ok-reserve.ensures.ok)
