use Rattle.std.proofs.Common.{length, map, ap, length-append, arith}
use Rattle.job_channels.specs.Channel.{channel_view}
use Rattle.job_graph.proofs.LinkLemmas.{table_push}
use Rattle.job_graph.proofs.links.table.Goals as goal

pub loop-task-preserved : goal.loop-task-preserved
loop-task-preserved c = record {
  len = omega (arith, simp length-append at (ap length c.in_ok-push.ensures.items));
  links = rw c.in_ok-push.ensures.items (table_push (map channel_view c.args.channels.now) c.loop-task.table.items c.in_ok-links_of.field-0 c.loop-task.task c.loop-task.invariant.len c.loop-task.invariant.links c.in_ok-links_of.ensures);
}
