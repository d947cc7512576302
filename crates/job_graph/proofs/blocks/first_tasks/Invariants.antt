use Rattle.std.proofs.Common.{◌≡◌, ℕ, ◌<◌, length, get_or, sum, take}
use Rattle.job_graph.specs.Expansion.{first_task}
use Rattle.job_graph.proofs.blocks.first_tasks.Given as goal

abbrev pub invariant-loop-count : goal.invariant-loop-count
invariant-loop-count l = record {
  total : l.total ≡ sum (take l.count-index l.parallelisms);
  len : length l.firsts.items ≡ l.count-index;
  each : (i : ℕ) → i < l.count-index → get_or l.firsts.items i 0 ≡ first_task l.parallelisms i;
}
