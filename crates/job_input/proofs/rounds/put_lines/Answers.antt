use Rattle.std.proofs.Common.{◌∙◌, All, OnOk, sym, subst}
use Rattle.abs_codec.specs.Spelling.{Fits}
use Rattle.line_parts.specs.Lines.{in_runs}
use Rattle.operators.specs.RowSpelling.{RowIsSpelled, row_spelling}
use Rattle.job_input.specs.Lines.{PutsText}
use Rattle.job_input.proofs.Putting.{puts_none}
use Rattle.job_input.proofs.rounds.put_lines.Goals as goal
use Rattle.source_log.specs.Partitions.{appended_all}

pub returns-in_err-take_front-clause-puts : goal.returns-in_err-take_front-clause-puts
returns-in_err-take_front-clause-puts g c = puts_none c.args.partition c.args.log.now.rows

pub put_taken-after-requires-after_bounds : goal.put_taken-after-requires-after_bounds
put_taken-after-requires-after_bounds g c κs within = subst (λ runs. All (Fits RowIsSpelled row_spelling) (in_runs runs)) (sym c.take_pending-before.ensures) c.requires.fits

pub returns-clause-text : goal.returns-clause-text
returns-clause-text g c =
    let p = c.args.partition in
    let new = appended_all c.put_taken-after.new.log.rows p (in_runs c.put_taken-after.result.0.runs.items) in
    let same = c.deref.ensures.value ∙ c.in_ok-take_front.ensures.taken in
    subst (λ text. OnOk c.put_taken-after.result.1 (PutsText p text (appended_all c.args.log.now.rows p (in_runs c.args.pending.now.runs.items)) new)) same (
    subst (λ runs. OnOk c.put_taken-after.result.1 (PutsText p c.deref.result.now (appended_all c.args.log.now.rows p (in_runs runs)) new)) c.take_pending-before.ensures c.put_taken-after.ensures.text
    )
