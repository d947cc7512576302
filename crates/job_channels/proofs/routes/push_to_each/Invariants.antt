use Rattle.std.proofs.Common.{◌≡◌, ◌++◌, ◌+◌, map}
use Rattle.std.specs.List.{range_with_len}
use Rattle.job_channels.specs.Channel.{channel_view}
use Rattle.job_channels.specs.Edges.{channel_on, route_to}
use Rattle.job_channels.proofs.routes.push_to_each.Given as goal

abbrev pub invariant-loop-i : goal.invariant-loop-i
invariant-loop-i l = map channel_view l.channels.items ≡ map channel_view l.initial.channels.items ++ map (λ i. channel_on l.edge l.sender (l.to + i) (route_to l.edge.route l.count i)) (range_with_len 0 l.i)
