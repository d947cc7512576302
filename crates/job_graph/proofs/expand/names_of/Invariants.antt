use Rattle.std.proofs.Common.{◌≡◌, ◌++◌, drop, map, string_bytes}
use Rattle.job_graph.specs.Order.{at}
use Rattle.job_graph.specs.Expansion.{names_at}
use Rattle.job_graph.proofs.expand.names_of.Given as goal

abbrev pub invariant-loop-i : goal.invariant-loop-i
invariant-loop-i l = map string_bytes l.names.items ++ names_at (at l.left) l.i (drop l.i l.job.vertices) ≡ names_at (at l.left) 0 l.job.vertices
