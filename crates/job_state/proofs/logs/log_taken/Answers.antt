use Rattle.std.proofs.Common.{true, Some, refl, sym, ap, ◌∙◌}
use Rattle.job_state.specs.Held.{log_with}
use Rattle.job_state.specs.Inside.{records_of}
use Rattle.job_state.proofs.Logging.{came_kept, records_pushed, same_record}
use Rattle.job_state.proofs.logs.log_taken.Goals as goal

pub returns-then-is_logged-clause-came : goal.returns-then-is_logged-clause-came
returns-then-is_logged-clause-came g c = came_kept c.args.logs.now c.args.channel c.requires.within c.push_reserved.new.self _ c.push_reserved.ensures refl

pub returns-then-is_logged-clause-logged : goal.returns-then-is_logged-clause-logged
returns-then-is_logged-clause-logged g c = λ row is.
    let logs = records_of c.args.logs.now in
    let same = same_record (sym (c.in-Some-Record.is ∙ ap Some c.in-Some-Record.field-0-is) ∙ is) in
    records_pushed c.args.logs.now c.args.channel c.requires.within c.in-Some-Record.row c.push_reserved.new.self _ c.push_reserved.ensures refl
    ∙ ap (λ r. log_with true c.args.channel r logs) same ∙ ap (λ b. log_with b c.args.channel row logs) (sym c.if-is_logged.true)
