-- the rows of the runs so far are put last, and those that are left fit
use Rattle.std.proofs.Common.{◌≡◌, All}
use Rattle.std.specs.Vec.Iter.{into_iter_items}
use Rattle.abs_codec.specs.Spelling.{Fits}
use Rattle.line_parts.specs.Lines.{in_runs}
use Rattle.operators.specs.RowSpelling.{RowIsSpelled, row_spelling}
use Rattle.job_input.proofs.rounds.append_runs.Given as goal
use Rattle.source_log.specs.Partitions.{appended_all}

abbrev pub invariant-loop-run : goal.invariant-loop-run
invariant-loop-run l =
    (l.log.rows ≡ appended_all l.fn.log.rows l.partition (in_runs l.yielded))
    × All (Fits RowIsSpelled row_spelling) (in_runs (into_iter_items l.run-iterator))
