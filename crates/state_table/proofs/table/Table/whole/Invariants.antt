use Rattle.std.proofs.Common.{◌≡◌, ◌++◌, length}
use Rattle.state_table.proofs.table.Table.whole.Given as goal

abbrev pub invariant-loop-key : goal.invariant-loop-key
invariant-loop-key g l = l.whole ++ l.entries ≡ l.self

abbrev pub decreases-loop-key : goal.decreases-loop-key
decreases-loop-key g l = length l.entries
