use Rattle.std.proofs.Common.{◌+◌}
use Rattle.job_channels.specs.Edges.{channels_to}
use Rattle.job_channels.proofs.Growing.{grown_flat}
use Rattle.job_channels.proofs.routes.push_crossed.Goals as goal

pub loop-i-preserved : goal.loop-i-preserved
loop-i-preserved c = grown_flat _ _ _ (λ i. channels_to c.args.edge.now (c.args.from + i) c.args.to c.args.receivers) c.loop-i.i c.in_ok-push_to_each.ensures c.loop-i.invariant
