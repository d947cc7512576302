use Rattle.std.proofs.Common.{◌≡◌, ◌≤◌, filter, length, map, take}
use Rattle.job_graph.specs.Expanded.{meets, is_marked, inputs_of}
use Rattle.recovery.proofs.logs.are_of_marked.Given as goal

-- the marked inputs among those met so far are the channels of the first logs
abbrev pub invariant-loop-number : goal.invariant-loop-number
invariant-loop-number g l = record {
  so_far : filter (meets is_marked l.graph.channels) (take l.number-index (inputs_of l.graph l.task)) ≡ take l.met (map (λ log. log.0) l.logs);
  within : l.met ≤ length l.logs;
}
