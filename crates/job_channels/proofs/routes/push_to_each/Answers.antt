use Rattle.std.proofs.Common.{◌+◌, ◌∙◌, ap}
use Rattle.job_channels.specs.Channel.{channel_view}
use Rattle.job_channels.specs.Edges.{channel_on, route_to}
use Rattle.job_channels.proofs.Growing.{grown}
use Rattle.job_channels.proofs.routes.push_to_each.Goals as goal

pub loop-i-preserved : goal.loop-i-preserved
loop-i-preserved c =
    grown channel_view _ _ _ _ (λ i. channel_on c.args.edge.now c.args.sender (c.args.to + i) (route_to c.args.edge.now.route c.args.count i)) c.loop-i.i c.in_ok-push.ensures.items
    (c.channel_on.ensures ∙ ap (channel_on c.args.edge.now c.args.sender (c.args.to + c.loop-i.i)) c.route_to-route.ensures) c.loop-i.invariant
