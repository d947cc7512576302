use Rattle.std.proofs.Common.{◌≢◌, All}
use Rattle.std.specs.Io.KnownBytes.{Consumes}
use Rattle.job_input.proofs.line.next_line.Given as goal

-- the line so far is what the reader has lost, and has no end in it
abbrev pub invariant-loop : goal.invariant-loop
invariant-loop g l = All (λ x. x ≢ 10) l.line.items × Consumes (g.R.Read.remaining l.fn.file) (g.R.Read.remaining l.file) l.line.items
