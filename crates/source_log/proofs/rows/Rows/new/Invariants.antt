use Rattle.std.proofs.Common.{◌≡◌, [], replicate}
use Rattle.source_log.specs.Rows.{lists_of}
use Rattle.source_log.proofs.rows.Rows.new.Given as goal

abbrev pub invariant-loop : goal.invariant-loop
invariant-loop g l = lists_of l.partitions.items ≡ replicate l.counter []
