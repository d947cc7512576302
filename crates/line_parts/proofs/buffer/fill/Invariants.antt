-- what the reader has lost is in the text
use Rattle.std.specs.Io.KnownBytes.{Keeps, prepend_known}
use Rattle.line_parts.proofs.buffer.fill.Given as goal

abbrev pub invariant-loop : goal.invariant-loop
invariant-loop g l =
    Keeps (prepend_known l.fn.text.items (g.F.Read.remaining l.fn.file)) (prepend_known l.text.items (g.F.Read.remaining l.file))
