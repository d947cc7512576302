use Rattle.std.proofs.Common.{ℕ, get_or, ap, arith}
use Rattle.std.proofs.lemmas.Option.{slice_get-get_or}
use Rattle.job_state.proofs.Putting.{first_skipped, room_moved}
use Rattle.job_state.proofs.sending.take_head.Goals as goal

pub returns-then-place-channels-clause-rest : goal.returns-then-place-channels-clause-rest
returns-then-place-channels-clause-rest g c =
    let channels = c.args.channels.now in
    let was = get_or channels c.args.channel c.index-channels-place.result in
    first_skipped 1 channels c.args.channel was c.pop.new.self (slice_get-get_or channels c.args.channel c.index-channels-place.result (omega arith)) (ap (λ r. r.items) c.pop.ensures.rest)

pub returns-then-place-channels-clause-room : goal.returns-then-place-channels-clause-room
returns-then-place-channels-clause-room g c =
    let channels = c.args.channels.now in
    let was = get_or channels c.args.channel c.index-channels-place.result in
    let moved = room_moved channels c.args.channel was c.pop.new.self 0 (omega arith) (slice_get-get_or channels c.args.channel c.index-channels-place.result (omega arith)) (omega (arith, ap (λ r. r.room) c.pop.ensures.rest)) in
    λ (number : ℕ). omega (arith, moved number)
