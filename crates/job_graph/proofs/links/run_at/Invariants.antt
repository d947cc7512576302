use Rattle.std.proofs.Common.{◌<◌, ◌+◌, ℕ, map}
use Rattle.job_channels.specs.Channel.{channel_view}
use Rattle.job_graph.specs.Runs.{TakesSubtask}
use Rattle.job_graph.proofs.links.run_at.Given as goal

-- all subtasks so far are met
abbrev pub invariant-loop-subtask : goal.invariant-loop-subtask
invariant-loop-subtask l = (met : ℕ) → met < l.subtask → TakesSubtask (map channel_view l.channels) l.numbers (l.place + met) l.parallelism met
