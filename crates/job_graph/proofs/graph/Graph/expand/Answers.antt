use Rattle.std.proofs.Common.{map}
use Rattle.job_channels.specs.Channel.{channel_view}
use Rattle.job_graph.specs.Expanded.{Expanded}
use Rattle.job_graph.specs.Expansion.{Expands}
use Rattle.job_graph.proofs.Expandings.{expanded}
use Rattle.job_graph.proofs.graph.Graph.expand.Goals as goal

pub new-requires : goal.new-requires
new-requires c =
    let graph : Expanded = record { tasks = c.in_ok-roles.roles.items; channels = map channel_view c.in_ok-channels.channels.items; order = c.in_ok-order.order.items; spelling = c.in-Ok.spelling.items } in
    let expands : Expands c.args.job.now graph = record {
      tasks = c.in_ok-roles.ensures.kinds;
      numbered = c.in_ok-roles.ensures.numbered;
      channels = c.in_ok-channels.ensures.channels;
      vertices = c.in_ok-vertices.vertices.items;
      in_order = c.in_ok-vertices.ensures.order;
      order = rw (c.deref-2.ensures.value, c.in_ok-roles.ensures.parallelisms, c.deref-4.ensures.value) at c.in_ok-order.ensures;
      spelling = c.in-Ok.ensures;
      small = c.in_ok-channels.ensures.small;
      acyclic = c.in_ok-vertices.ensures.acyclic;
      fed = c.if-not-are_fed.ensures;
    } in
    expanded c.args.job.now graph c.in_ok-channels.ensures.job expands c.in_ok-vertices.ensures.whole
