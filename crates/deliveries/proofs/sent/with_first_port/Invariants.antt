use Rattle.std.proofs.Common.{◌≡◌}
use Rattle.deliveries.specs.Deliveries.{on_first}
use Rattle.deliveries.proofs.sent.with_first_port.Given as goal

-- those met so far have the first port
abbrev pub invariant-loop-row : goal.invariant-loop-row
invariant-loop-row g l = l.sent.items ≡ on_first l.yielded
