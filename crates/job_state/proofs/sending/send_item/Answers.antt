use Rattle.std.proofs.Common.{◌≡◌, ◌<◌, length, get_or, slice_set, ap, arith}
use Rattle.std.proofs.lemmas.Option.{slice_get-get_or}
use Rattle.job_state.specs.Sending.{contents_items}
use Rattle.job_state.proofs.Holds.{on_err}
use Rattle.job_state.proofs.Putting.{items_kept, put_last}
use Rattle.job_state.proofs.sending.send_item.Goals as goal

pub returns-in_err-reserve-clause-err : goal.returns-in_err-reserve-clause-err
returns-in_err-reserve-clause-err g c =
    let channels = c.args.channels.now in
    let n = c.args.number in
    let within : n < length channels = omega (arith, c.requires) in
    let was = get_or channels n c.index-channels-number.result in
    on_err c.from_residual.result (contents_items (slice_set channels n c.reserve.new.self) ≡ contents_items channels)
    (items_kept channels n was c.reserve.new.self (slice_get-get_or channels n c.index-channels-number.result within) (ap (λ r. r.items) c.in_err-reserve.ensures.err))

pub returns-clause-ok : goal.returns-clause-ok
returns-clause-ok g c =
    let channels = c.args.channels.now in
    let n = c.args.number in
    let within : n < length channels = omega (arith, c.requires) in
    let was = get_or channels n c.index-channels-number.result in
    put_last channels n was c.reserve.new.self c.push_reserved.new.self c.args.item within (slice_get-get_or channels n c.index-channels-number.result within) (ap (λ r. r.items) c.in_ok-reserve.ensures.ok) c.push_reserved.ensures
