use Rattle.std.proofs.Common.{◌≡◌, take}
use Rattle.deliveries.specs.Deliveries.{fanned_by}
use Rattle.deliveries.proofs.fans.Fans.fanned.Given as goal

-- what was sent so far is there for each channel of its port
abbrev pub invariant-loop-each : goal.invariant-loop-each
invariant-loop-each g l = l.rows.items ≡ fanned_by l.self.first.items l.self.second.items (take l.each-index l.sent)
