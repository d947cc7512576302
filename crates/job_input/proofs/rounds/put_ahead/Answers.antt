use Rattle.std.proofs.Common.{◌∙◌, All, OnOk, take, sym, subst}
use Rattle.std.proofs.lemmas.Result.{on_ok_weaker}
use Rattle.std.specs.Io.KnownBytes.{prepend_known}
use Rattle.abs_codec.specs.Spelling.{Fits}
use Rattle.line_parts.specs.Lines.{in_runs}
use Rattle.operators.specs.RowSpelling.{RowIsSpelled, row_spelling}
use Rattle.job_input.specs.Lines.{PutsText, PutsFront}
use Rattle.job_input.proofs.Putting.{puts_none}
use Rattle.job_input.proofs.Texts.{front_put}
use Rattle.job_input.proofs.rounds.put_ahead.Goals as goal
use Rattle.source_log.specs.Partitions.{appended_all}

pub returns-in_err-take_front-clause-puts : goal.returns-in_err-take_front-clause-puts
returns-in_err-take_front-clause-puts g c = puts_none c.args.partition c.args.log.now.rows

pub put_and_fill-filled-requires-after_bounds : goal.put_and_fill-filled-requires-after_bounds
put_and_fill-filled-requires-after_bounds g c κs within = subst (λ runs. All (Fits RowIsSpelled row_spelling) (in_runs runs)) (sym c.take_pending-before.ensures) c.requires

pub returns-clause-front : goal.returns-clause-front
returns-clause-front g c =
    let p = c.args.partition in
    let count = c.whole_len.result in
    let text = c.args.buffer.now.text.items in
    let put = c.put_and_fill-filled.result.1.1 in
    let old = appended_all c.args.log.now.rows p (in_runs c.args.pending.now.runs.items) in
    let new = appended_all c.put_and_fill-filled.new.log.rows p (in_runs c.put_and_fill-filled.result.1.0.runs.items) in
    let same = c.deref-2.ensures.value ∙ c.in_ok-take_front.ensures.taken in
    let lines : OnOk put (PutsText p (take count text) old new) =
    subst (λ t. OnOk put (PutsText p t old new)) same (
    subst (λ runs. OnOk put (PutsText p c.deref-2.result.now (appended_all c.args.log.now.rows p (in_runs runs)) new)) c.take_pending-before.ensures c.put_and_fill-filled.ensures.lines
    ) in
    let puts : PutsText p (take count text) old new = subst (λ r. OnOk r (PutsText p (take count text) old new)) c.in_ok-put.was lines in
    on_ok_weaker {Q = PutsFront p (prepend_known text (g.F.Read.remaining c.args.file.now)) (prepend_known c.put_and_fill-filled.new.text.items (g.F.Read.remaining c.put_and_fill-filled.new.file)) old new} c.put_and_fill-filled.result.0 (λ same. front_put p count _ _ text _ _ old new c.in_ok-take_front.ensures.text c.whole_len.ensures.end same puts) c.put_and_fill-filled.ensures.bytes
