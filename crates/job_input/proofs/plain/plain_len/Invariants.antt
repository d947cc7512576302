-- those so far mean themselves
use Rattle.std.proofs.Common.{◌≡◌, ◌-◌, ◌≤◌, All, true, length, take}
use Rattle.job_input.specs.Plain.{is_plain}
use Rattle.job_input.proofs.plain.plain_len.Given as goal

abbrev pub invariant-loop-i : goal.invariant-loop-i
invariant-loop-i l = (l.i ≤ length l.bytes) × All (λ x. is_plain x ≡ true) (take l.i l.bytes)

abbrev pub decreases-loop-i : goal.decreases-loop-i
decreases-loop-i l = length l.bytes - l.i
