-- What a graph keeps.
use Rattle.std.specs.Prelude.{◌≡◌, map, length, count_by}
use Rattle.job_graph.specs.declared.graph.Graph.TheInside.{Inside}
use Rattle.job_channels.specs.Channel.{channel_view}
use Rattle.job_graph.specs.Expanded.{Expanded, IsExpanded, is_sink}
use Rattle.job_graph.specs.Tables.{IsTable}

abbrev pub expanded_of : Inside → Expanded
expanded_of g = record { tasks = g.roles.items; channels = map channel_view g.channels.items; order = g.order.items; spelling = g.spelling.items }

pub record IsLinked (g : Inside) : Type 0 where
  pub expanded : IsExpanded (expanded_of g)
  pub len : length g.links.items ≡ length g.roles.items
  pub links : IsTable (map channel_view g.channels.items) g.links.items
  pub sinks : g.sinks ≡ count_by is_sink g.roles.items
