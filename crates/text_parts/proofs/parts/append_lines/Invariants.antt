use Rattle.std.proofs.Common.{◌≡◌, ◌-◌, ◌≤◌, ◌++◌, List, ℕ}
use Rattle.text_parts.specs.Lines.{AreLines}
use Rattle.text_parts.proofs.parts.append_lines.Given as goal

-- the lines so far are put last
abbrev pub invariant-loop-done : goal.invariant-loop-done
invariant-loop-done g l =
    (l.done ≤ l.count)
    × ((bytes : List ℕ) × AreLines (g.L.Lines.IsLine l.lines) l.first l.done bytes × (l.text.items ≡ l.fn.text.items ++ bytes))

abbrev pub decreases-loop-done : goal.decreases-loop-done
decreases-loop-done g l = l.count - l.done
