use Rattle.std.proofs.Common.{◌≡◌, ◌++◌, drop}
use Rattle.job_graph.specs.Expansion.{parallelisms_of}
use Rattle.job_graph.proofs.tasks.parallelisms.Given as goal

abbrev pub invariant-loop-i : goal.invariant-loop-i
invariant-loop-i l = l.parallelisms.items ++ parallelisms_of (drop l.i l.job.vertices) ≡ parallelisms_of l.job.vertices
