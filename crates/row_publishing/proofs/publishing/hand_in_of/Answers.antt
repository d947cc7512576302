use Rattle.std.proofs.Common.{◌≡◌, ◌+◌, ◌<◌, ◌≤◌, ℕ, Some, length, slice_get, count_by, arith, rules, subst, sym, ap, ◌∙◌}
use Rattle.commit_sink.specs.Ledger.{committed_rows}
use Rattle.engine_model.specs.State.{State}
use Rattle.job_graph.specs.Expanded.{is_sink}
use Rattle.published_lists.specs.Rows.{rows_of, with_row}
use Rattle.row_publishing.specs.Showing.{BeginCommitted}
use Rattle.row_publishing.proofs.Shown.{row_kept, all_there, count-same, rows_of-other}
use Rattle.row_publishing.proofs.publishing.hand_in_of.Goals as goal

pub loop-number-preserved : goal.loop-number-preserved
loop-number-preserved g c =
    let w = c.loop-number.writer in
    let engine = c.args.core.now.engine in
    let sink = c.args.sink in
    let row = c.in-Ok-Some.row.items in
    let kept = c.loop-number.invariant in
    let appended = c.in_ok-append.ensures.appended in
    let less : sink < length w.appended = subst (λ n. sink < n) (sym kept.begin.subtasks) c.requires.sink in
    let next : slice_get (committed_rows engine.ledger sink) c.loop-number.number ≡ Some row = search rules in record {
      begin = subst (λ l. BeginCommitted l engine) (sym appended) (row_kept w.appended engine sink row kept.begin less (subst (λ n. slice_get (committed_rows engine.ledger sink) n ≡ Some row) (sym kept.count) next));
      count = ap (λ l. length (rows_of l sink)) appended ∙ count-same w.appended sink row less ∙ ap (λ n. n + 1) kept.count;
      others = λ s n. ap (λ l. rows_of l s) appended ∙ rows_of-other w.appended sink s row n ∙ kept.others s n;
      published = c.in_ok-append.ensures.published ∙ kept.published;
      same = (c.in_ok-append.ensures.same.0 ∙ kept.same.0, c.in_ok-append.ensures.same.1 ∙ kept.same.1);
    }

pub returns-clause-all : goal.returns-clause-all
returns-clause-all g c =
    let engine = c.args.core.now.engine in
    let less : length (committed_rows engine.ledger c.args.sink) ≤ length (rows_of c.loop-number.writer.appended c.args.sink) = search rules in
    all_there c.loop-number.writer.appended engine c.args.sink c.loop-number.invariant.begin less
