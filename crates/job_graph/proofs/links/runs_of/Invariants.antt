use Rattle.std.proofs.Common.{◌≡◌, ◌<◌, ℕ, length, map, slice_index}
use Rattle.job_channels.specs.Channel.{channel_view}
use Rattle.job_graph.specs.Runs.{IsRun}
use Rattle.job_graph.proofs.links.runs_of.Given as goal

-- a run for each place so far
abbrev pub invariant-loop-place : goal.invariant-loop-place
invariant-loop-place l = (length l.runs.items ≡ l.place) × ((met : ℕ) → met < l.place → IsRun (map channel_view l.channels) l.numbers met (slice_index l.runs.items met))
