use Rattle.std.proofs.Common.{◌≡◌, map, take}
use Rattle.claims.proofs.carried.each_lane.Given as goal

-- the lanes of what was sent so far
abbrev pub invariant-loop-each : goal.invariant-loop-each
invariant-loop-each g l = l.lanes.items ≡ map (λ s. g.O.Operator.meaning.lane s.1) (take l.each-index l.sent)
