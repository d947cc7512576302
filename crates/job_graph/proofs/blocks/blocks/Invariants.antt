use Rattle.std.proofs.Common.{◌≡◌, ◌++◌, drop}
use Rattle.job_graph.specs.Expansion.{blocks}
use Rattle.job_graph.proofs.blocks.blocks.Given as goal

abbrev pub invariant-loop-vertex : goal.invariant-loop-vertex
invariant-loop-vertex l = l.order.items ++ blocks l.parallelisms (drop l.vertex-index l.vertices) ≡ blocks l.parallelisms l.vertices
