use Rattle.std.proofs.Common.{◌≡◌, map, take}
use Rattle.job_graph.specs.Expanded.{meets, is_marked}
use Rattle.job_state.proofs.gates.marks.Given as goal

abbrev pub invariant-loop-number : goal.invariant-loop-number
invariant-loop-number l = l.marks.items ≡ map (meets is_marked l.graph.channels) (take l.number-index l.number-items)
