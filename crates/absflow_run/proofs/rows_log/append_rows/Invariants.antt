use Rattle.std.proofs.Common.{◌≡◌}
use Rattle.absflow_run.proofs.rows_log.append_rows.Given as goal
use Rattle.source_log.specs.Partitions.{appended_all}

-- those so far are put last
abbrev pub invariant-loop-row : goal.invariant-loop-row
invariant-loop-row l = l.log.rows ≡ appended_all l.fn.log.rows l.partition l.yielded
