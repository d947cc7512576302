use Rattle.std.proofs.Common.{◌≡◌, take}
use Rattle.operators.specs.RowMeaning.{sum_of}
use Rattle.operators.proofs.row_op.sum_of.Given as goal

abbrev pub invariant-loop-value : goal.invariant-loop-value
invariant-loop-value l = l.sum ≡ sum_of (take l.value-index l.values)
