use Rattle.std.proofs.Common.{◌-◌, ◌≤◌}
use Rattle.text_parts.specs.Lines.{WritesLines}
use Rattle.absflow_run.specs.Printed.{IsRecordLine}
use Rattle.absflow_run.proofs.committed.print_lines.Given as goal

-- so many lines are written
abbrev pub invariant-loop-done : goal.invariant-loop-done
invariant-loop-done g l =
    (l.done ≤ l.rows)
    × WritesLines (IsRecordLine (g.C.CommittedRows.records l.lines.core.now l.lines.sink)) 0 l.done (g.W.Write.contents l.fn.out) (g.W.Write.contents l.out)

abbrev pub decreases-loop-done : goal.decreases-loop-done
decreases-loop-done g l = l.rows - l.done
