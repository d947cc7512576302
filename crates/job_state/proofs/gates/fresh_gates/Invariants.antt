use Rattle.std.proofs.Common.{◌≡◌, map}
use Rattle.std.specs.List.{range_with_len}
use Rattle.job_state.specs.Held.{fresh_gate}
use Rattle.job_state.proofs.gates.fresh_gates.Given as goal

abbrev pub invariant-loop-task : goal.invariant-loop-task
invariant-loop-task l = l.gates.items ≡ map (fresh_gate l.graph) (range_with_len 0 l.task)
