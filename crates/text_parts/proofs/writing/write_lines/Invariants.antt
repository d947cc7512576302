use Rattle.std.proofs.Common.{◌-◌, ◌≤◌}
use Rattle.text_parts.specs.Lines.{WritesLines}
use Rattle.text_parts.proofs.writing.write_lines.Given as goal

-- so many lines are written
abbrev pub invariant-loop-done : goal.invariant-loop-done
invariant-loop-done g l =
    (l.done ≤ l.count)
    × WritesLines (g.L.Lines.IsLine l.lines) 0 l.done (g.W.Write.contents l.fn.out) (g.W.Write.contents l.out)

abbrev pub decreases-loop-done : goal.decreases-loop-done
decreases-loop-done g l = l.count - l.done
