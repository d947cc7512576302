-- the rows of the lines so far are put last, or still to be put
use Rattle.std.proofs.Common.{All}
use Rattle.std.specs.Io.KnownBytes.{prepend_known}
use Rattle.abs_codec.specs.Spelling.{Fits}
use Rattle.line_parts.specs.Lines.{in_runs}
use Rattle.operators.specs.RowSpelling.{RowIsSpelled, row_spelling}
use Rattle.job_input.specs.Lines.{PutsFront, PutsRows}
use Rattle.job_input.proofs.rounds.put_rounds.Given as goal
use Rattle.source_log.specs.Partitions.{appended_all}

abbrev pub invariant-loop : goal.invariant-loop
invariant-loop g l =
    PutsRows l.partition l.fn.log.rows l.log.rows
    × All (Fits RowIsSpelled row_spelling) (in_runs l.pending.runs.items)
    × PutsFront l.partition (g.F.Read.remaining l.fn.file) (prepend_known l.buffer.text.items (g.F.Read.remaining l.file)) (appended_all l.fn.log.rows l.partition (in_runs l.fn.pending.runs.items)) (appended_all l.log.rows l.partition (in_runs l.pending.runs.items))
