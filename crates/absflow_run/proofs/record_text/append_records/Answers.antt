use Rattle.std.proofs.Common.{◌≡◌, ◌∙◌, ◌+◌, [], ◌∷◌, ◌++◌, Some, slice_get, refl, sym, ap, arith}
use Rattle.std.proofs.lemmas.Option.{slice_get-get_or}
use Rattle.text_parts.proofs.Joining.{one_more}
use Rattle.absflow_run.specs.Printed.{IsRecordLine}
use Rattle.absflow_run.specs.RowText.{row_text}
use Rattle.absflow_run.proofs.RunLines.{line_of, put_behind}
use Rattle.absflow_run.proofs.record_text.append_records.Goals as goal

pub loop-record-preserved : goal.loop-record-preserved
loop-record-preserved c =
    let (bytes, lines, text) = c.loop-record.invariant in
    let records = c.args.records.now in
    let k = c.loop-record.record-index in
    let put = c.in_ok-append_record.ensures in
    let line = row_text put.row ++ 10 ∷ [] in
    let at : slice_get c.args.records.now c.loop-record.record-index ≡ Some c.as_slice.result.now =
    slice_get-get_or records k c.record-item.result c.loop-record-test.true ∙ ap Some (sym c.record-item.is ∙ sym c.as_slice.ensures) in (
      bytes ++ line,
      one_more (IsRecordLine records) 0 k k (k + 1) bytes line lines (omega arith) (line_of records k c.as_slice.result.now _ _ at put) refl,
      put_behind c.args.text.now.items bytes line _ _ put.line text,
    )
