use Rattle.std.proofs.Common.{◌∙◌, [], All, sym, ap, subst}
use Rattle.std.proofs.lemmas.List.{flat_map_more}
use Rattle.abs_codec.specs.Spelling.{Fits}
use Rattle.line_parts.specs.Lines.{in_runs}
use Rattle.operators.specs.RowSpelling.{RowIsSpelled, row_spelling}
use Rattle.job_input.proofs.Putting.{no_rows, more_rows}
use Rattle.job_input.proofs.Runs.{all_before, all_behind}
use Rattle.job_input.proofs.rounds.append_runs.Goals as goal
use Rattle.source_log.specs.Partitions.{appended_all}

pub loop-run-init : goal.loop-run-init
loop-run-init c =
    (sym (no_rows c.args.log.now.rows c.args.partition), subst (λ runs. All (Fits RowIsSpelled row_spelling) (in_runs runs)) (sym c.into_iter-run-iterator.ensures.into_iter_gives.0) c.requires)

pub append_all-requires : goal.append_all-requires
append_all-requires c =
    let (put, fit) = c.loop-run.invariant in
    all_before (Fits RowIsSpelled row_spelling) c.in-Some.run'.items _ (subst (λ runs. All (Fits RowIsSpelled row_spelling) (in_runs runs)) c.in-Some.ensures.steps.0 fit)

pub loop-run-preserved : goal.loop-run-preserved
loop-run-preserved c =
    let (put, fit) = c.loop-run.invariant in
    let run = c.in-Some.run' in
    let old = c.args.log.now.rows in
    let p = c.args.partition in
    let ran = c.loop-run.yielded in (
      c.in_ok-append_all.ensures.ok ∙ ap (λ ps. appended_all ps p run.items) put ∙ more_rows old p (in_runs ran) run.items ∙ ap (appended_all old p) (flat_map_more (λ one. one.items) [] ran run),
      all_behind (Fits RowIsSpelled row_spelling) run.items _ (subst (λ runs. All (Fits RowIsSpelled row_spelling) (in_runs runs)) c.in-Some.ensures.steps.0 fit),
    )

pub returns-in_err-append_all-clause-puts : goal.returns-in_err-append_all-clause-puts
returns-in_err-append_all-clause-puts c =
    let (put, fit) = c.loop-run.invariant in
    (in_runs c.loop-run.yielded, c.in_err-append_all.ensures.err ∙ put)
