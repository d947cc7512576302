use Rattle.std.proofs.Common.{◌-◌, ◌≤◌, length}
use Rattle.job_input.proofs.plain.number_len.Given as goal

abbrev pub invariant-loop-i : goal.invariant-loop-i
invariant-loop-i l = l.i ≤ length l.bytes

abbrev pub decreases-loop-i : goal.decreases-loop-i
decreases-loop-i l = length l.bytes - l.i
