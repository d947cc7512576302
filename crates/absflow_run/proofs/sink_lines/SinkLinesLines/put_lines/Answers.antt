use Rattle.std.proofs.Common.{rules, ◌≡◌, [], length, sym, arith, append-nil}
use Rattle.absflow_run.proofs.RunLines.{lines_past, none_left, run_lines}
use Rattle.absflow_run.proofs.sink_lines.SinkLinesLines.put_lines.Goals as goal

pub returns-then-is_empty-clause-lines : goal.returns-then-is_empty-clause-lines
returns-then-is_empty-clause-lines g c =
    let records = g.C.CommittedRows.records c.args.self.now.core.now c.args.self.now.sink in
    let none : length c.in_ok-records.records.now ≡ 0 = search rules in
    ([], lines_past records c.args.first c.args.count (none_left records c.args.first c.in_ok-records.records.now c.in_ok-records.ensures none), sym (append-nil c.args.text.now.items))

pub returns-clause-lines : goal.returns-clause-lines
returns-clause-lines g c =
    let records = g.C.CommittedRows.records c.args.self.now.core.now c.args.self.now.sink in
    let (bytes, lines, text) = c.in_ok-append_records.ensures in
    let put = c.min-put.ensures in
    (bytes, run_lines records c.in_ok-records.records.now c.args.first c.min-put.result bytes c.in_ok-records.ensures (omega (arith, put)) lines, text)
