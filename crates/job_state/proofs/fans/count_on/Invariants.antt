use Rattle.std.proofs.Common.{◌≡◌, ◌≤◌, ◌==◌, length, filter, take}
use Rattle.job_state.proofs.fans.count_on.Given as goal

-- those met so far are counted
abbrev pub invariant-loop-each : goal.invariant-loop-each
invariant-loop-each g l = record {
  is : l.count ≡ length (filter (λ s. s.0 == l.port) (take l.each-index l.sent));
  bounded : l.count ≤ l.each-index;
}
