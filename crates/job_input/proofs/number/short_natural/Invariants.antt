-- the digits so far are the number's
use Rattle.std.proofs.Common.{◌≡◌, ◌-◌, ◌<◌, ◌≤◌, ◌^◌, length, take}
use Rattle.std.specs.Fmt.{decimal}
use Rattle.job_input.proofs.number.short_natural.Given as goal

abbrev pub invariant-loop-i : goal.invariant-loop-i
invariant-loop-i l = (l.i ≤ length l.text) × (l.n < 10 ^ 18) × (l.i ≡ 0 → l.n ≡ 0) × (0 < l.i → take l.i l.text ≡ decimal l.n)

abbrev pub decreases-loop-i : goal.decreases-loop-i
decreases-loop-i l = length l.text - l.i
