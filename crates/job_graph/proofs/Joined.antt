-- Channels that are looked up.
use Rattle.std.proofs.Common.{◌≡◌, ℕ, Option, Some, None, IfSome, option_map, slice_get, sym}
use Rattle.job_channels.specs.declared.channel.Channel.{Channel}
use Rattle.job_channels.specs.Channel.{channel_view}
use Rattle.job_graph.specs.Expanded.{Expanded, IsExpanded, IsChannel}

-- a channel that was found joins tasks
pub joined_if_some : (graph : Expanded) (number : ℕ) (found : Option Channel) → IsExpanded graph → option_map channel_view found ≡ slice_get graph.channels number
    → IfSome found (λ channel. IsChannel graph.tasks (channel_view channel))
joined_if_some graph number None expanded is = tt
joined_if_some graph number (Some channel) expanded is = expanded.joined number (channel_view channel) (sym is)
