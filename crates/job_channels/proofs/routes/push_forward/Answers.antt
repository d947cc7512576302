use Rattle.std.proofs.Common.{◌+◌}
use Rattle.dataflow_model.specs.Graph.{Every}
use Rattle.job_channels.specs.Channel.{channel_view}
use Rattle.job_channels.specs.Edges.{channel_on}
use Rattle.job_channels.proofs.Growing.{grown}
use Rattle.job_channels.proofs.routes.push_forward.Goals as goal

pub loop-i-preserved : goal.loop-i-preserved
loop-i-preserved c = grown channel_view _ _ _ _ (λ i. channel_on c.args.edge.now (c.args.from + i) (c.args.to + i) Every) c.loop-i.i c.in_ok-push.ensures.items c.channel_on.ensures c.loop-i.invariant
