-- The channels of the program, as those of the plain machine.
use Rattle.std.specs.Prelude.{◌<◌}
use Rattle.dataflow_model.specs.Graph as model
use Rattle.job_channels.specs.declared.channel.Route.{Route}
use Rattle.job_channels.specs.declared.channel.Route.TheVariants.{Every, Lanes}
use Rattle.job_channels.specs.declared.channel.Channel.{Channel}

abbrev pub route_view : Route → model.Route
route_view Every = model.Every
route_view (Lanes parallelism subtask) = model.Lanes parallelism subtask

abbrev pub channel_view : Channel → model.Channel
channel_view c = record { sender = c.sender; receiver = c.receiver; port = c.port; route = route_view c.route; marked = c.marked }

-- lanes fall to one of the receiver's subtasks
abbrev pub HasSubtask : model.Route → Type 0
HasSubtask model.Every = Unit {0}
HasSubtask (model.Lanes parallelism subtask) = subtask < parallelism
