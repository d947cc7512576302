use Rattle.std.proofs.Common.{◌≡◌, ◌++◌, map, drop}
use Rattle.std.specs.List.{flat_map}
use Rattle.job_channels.specs.Channel.{channel_view}
use Rattle.job_channels.specs.Edges.{edge_channels}
use Rattle.job_channels.proofs.routes.channels.Given as goal

abbrev pub invariant-loop-edge : goal.invariant-loop-edge
invariant-loop-edge l = map channel_view l.channels.items ++ flat_map (edge_channels l.parallelisms) (drop l.edge-index l.edges) ≡ flat_map (edge_channels l.parallelisms) l.edges
