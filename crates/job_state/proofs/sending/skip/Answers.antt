use Rattle.std.proofs.Common.{ℕ, length, get_or, ap, arith}
use Rattle.std.proofs.lemmas.Option.{slice_get-get_or}
use Rattle.channels.specs.Items.{leading_records}
use Rattle.job_state.proofs.Putting.{items_here, first_skipped, room_moved}
use Rattle.job_state.proofs.sending.skip.Goals as goal

pub skip-requires : goal.skip-requires
skip-requires g c =
    let channels = c.args.channels.now in
    let was = get_or channels c.args.channel c.index-channels-place.result in
    let here = items_here channels c.args.channel was (slice_get-get_or channels c.args.channel c.index-channels-place.result (omega arith)) in
    omega (arith, c.requires, ap (λ l. length (leading_records l)) here)

pub returns-then-place-channels-clause-rest : goal.returns-then-place-channels-clause-rest
returns-then-place-channels-clause-rest g c =
    let channels = c.args.channels.now in
    let was = get_or channels c.args.channel c.index-channels-place.result in
    first_skipped c.args.count channels c.args.channel was c.skip.new.self (slice_get-get_or channels c.args.channel c.index-channels-place.result (omega arith)) (ap (λ r. r.items) c.skip.ensures)

pub returns-then-place-channels-clause-room : goal.returns-then-place-channels-clause-room
returns-then-place-channels-clause-room g c =
    let channels = c.args.channels.now in
    let was = get_or channels c.args.channel c.index-channels-place.result in
    let moved = room_moved channels c.args.channel was c.skip.new.self 0 (omega arith) (slice_get-get_or channels c.args.channel c.index-channels-place.result (omega arith)) (omega (arith, ap (λ r. r.room) c.skip.ensures)) in
    λ (number : ℕ). omega (arith, moved number)
