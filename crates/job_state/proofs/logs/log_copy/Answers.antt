use Rattle.std.proofs.Common.{◌<◌, true, length, refl, ap, ◌∙◌, arith}
use Rattle.std.proofs.lemmas.List.{length-set}
use Rattle.backedge_log.specs.Recorded.{log_at}
use Rattle.job_state.specs.Held.{log_with}
use Rattle.job_state.specs.Inside.{records_of}
use Rattle.job_state.proofs.Holds.{on_err}
use Rattle.job_state.proofs.Logging.{came_kept, records_kept, records_pushed}
use Rattle.job_state.proofs.logs.log_copy.Goals as goal

pub returns-in_err-reserve-clause-came : goal.returns-in_err-reserve-clause-came
returns-in_err-reserve-clause-came g c = came_kept c.args.logs.now c.args.channel c.requires c.reserve.new.self _ c.reserve.ensures.same refl

pub returns-in_err-reserve-clause-err : goal.returns-in_err-reserve-clause-err
returns-in_err-reserve-clause-err g c = on_err c.from_residual-in_err-reserve.result _ (records_kept c.args.logs.now c.args.channel c.requires c.reserve.new.self _ c.reserve.ensures.same refl)

pub returns-clause-came : goal.returns-clause-came
returns-clause-came g c =
    let within : c.args.channel < length c.reserve.new.self = omega (arith, c.requires, ap (λ logs. length logs) c.reserve.ensures.same, length-set c.args.logs.now c.args.channel (record (log_at c.args.logs.now c.args.channel) { room = (log_at c.reserve.new.self c.args.channel).room })) in
    came_kept c.reserve.new.self c.args.channel within c.push_reserved.new.self _ c.push_reserved.ensures refl ∙ came_kept c.args.logs.now c.args.channel c.requires c.reserve.new.self _ c.reserve.ensures.same refl

pub returns-clause-ok : goal.returns-clause-ok
returns-clause-ok g c =
    let within : c.args.channel < length c.reserve.new.self = omega (arith, c.requires, ap (λ logs. length logs) c.reserve.ensures.same, length-set c.args.logs.now c.args.channel (record (log_at c.args.logs.now c.args.channel) { room = (log_at c.reserve.new.self c.args.channel).room })) in
    records_pushed c.reserve.new.self c.args.channel within c.in_ok-row.row c.push_reserved.new.self _ c.push_reserved.ensures refl
    ∙ ap (log_with true c.args.channel c.in_ok-row.row) (records_kept c.args.logs.now c.args.channel c.requires c.reserve.new.self _ c.reserve.ensures.same refl)
    ∙ ap (λ r. log_with true c.args.channel r (records_of c.args.logs.now)) c.in_ok-row.ensures
