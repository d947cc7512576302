use Rattle.std.proofs.Common.{◌≡◌, ◌++◌}
use Rattle.state_table.proofs.table.Table.from_map.Given as goal

abbrev pub invariant-loop-key : goal.invariant-loop-key
invariant-loop-key g l = l.table ++ l.key-iterator ≡ l.initial.key-iterator
