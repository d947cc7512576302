use Rattle.std.proofs.Common.{◌≡◌, ◌++◌, map, length}
use Rattle.absflow_run.proofs.Rows.{AreDone}
use Rattle.absflow_run.proofs.rows_log.rows_log.Given as goal

-- the partitions so far, and then empty ones
abbrev pub invariant-loop-partition : goal.invariant-loop-partition
invariant-loop-partition l =
    (l.partition-iterator.a.start ≡ length l.yielded)
    × (l.partition-iterator.a.end ≡ l.count)
    × (map (λ e. e.1) l.yielded ++ l.partition-iterator.b.rest.items ≡ l.fn.partitions.items)
    × AreDone (λ rows. rows.items) l.yielded l.count l.log.rows
