use Rattle.std.proofs.Common.{get_or, arith, ap}
use Rattle.std.proofs.lemmas.Option.{slice_get-get_or}
use Rattle.job_state.proofs.Putting.{items_kept}
use Rattle.job_state.proofs.ready.reserve_run.Goals as goal

pub returns-clause-same : goal.returns-clause-same
returns-clause-same g c =
    let channels = c.args.channels.now in
    let n = c.args.number in
    let was = get_or channels n c.index-channels-number.result in
    items_kept channels n was c.reserve.new.self (slice_get-get_or channels n c.index-channels-number.result (omega (arith, c.requires (omega arith)))) (ap (λ r. r.items) c.in-Ok.ensures.ok)
