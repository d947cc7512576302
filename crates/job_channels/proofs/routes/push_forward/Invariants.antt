use Rattle.std.proofs.Common.{◌≡◌, ◌++◌, map}
use Rattle.job_channels.specs.Channel.{channel_view}
use Rattle.job_channels.specs.Edges.{forward_channels}
use Rattle.job_channels.proofs.routes.push_forward.Given as goal

abbrev pub invariant-loop-i : goal.invariant-loop-i
invariant-loop-i l = map channel_view l.channels.items ≡ map channel_view l.initial.channels.items ++ forward_channels l.edge l.from l.to l.i
