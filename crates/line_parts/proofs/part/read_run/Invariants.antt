-- the lines so far are read
use Rattle.std.proofs.Common.{◌+◌, ◌≤◌, length}
use Rattle.line_parts.specs.Lines.{BeginsWithLines}
use Rattle.line_parts.proofs.part.read_run.Given as goal

abbrev pub invariant-loop-rest : goal.invariant-loop-rest
invariant-loop-rest g l =
    BeginsWithLines (g.L.LineReader.HasItem l.reader) l.lines l.text l.items.items l.rest × (l.lines + length l.rest ≤ length l.text)

abbrev pub decreases-loop-rest : goal.decreases-loop-rest
decreases-loop-rest g l = length l.rest
