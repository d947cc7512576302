use Rattle.std.proofs.Common.{◌≡◌, length, map}
use Rattle.job_channels.specs.Channel.{channel_view}
use Rattle.job_graph.specs.Tables.{IsTable}
use Rattle.job_graph.proofs.links.table.Given as goal

abbrev pub invariant-loop-task : goal.invariant-loop-task
invariant-loop-task l = record {
  len : length l.table.items ≡ l.task;
  links : IsTable (map channel_view l.channels) l.table.items;
}
