use Rattle.std.proofs.Common.{◌≡◌, ◌^◌, ◌<◌, take}
use Rattle.operators.specs.Lanes.{lane_of}
use Rattle.operators.proofs.row.Row.lane.Given as goal

abbrev pub invariant-loop-byte : goal.invariant-loop-byte
invariant-loop-byte l = record { small : l.lane < 2 ^ 32; so_far : lane_of (take l.byte-index l.byte-items) ≡ l.lane }
