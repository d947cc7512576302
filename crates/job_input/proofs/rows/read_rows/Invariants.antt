use Rattle.job_input.specs.Lines.{PutsRows}
use Rattle.job_input.proofs.Putting.{StillPuts}
use Rattle.job_input.proofs.rows.read_rows.Given as goal

-- the rows of the lines so far are put last, and what the rest puts, the whole puts
abbrev pub invariant-loop-number : goal.invariant-loop-number
invariant-loop-number g l =
    PutsRows l.partition l.fn.log.rows l.log.rows
    × StillPuts l.partition (g.R.Read.remaining l.fn.file) (g.R.Read.remaining l.file) l.fn.log.rows l.log.rows
