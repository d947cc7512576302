use Rattle.std.proofs.Common.{◌≡◌, ◌++◌, drop}
use Rattle.std.specs.List.{flat_map}
use Rattle.job_graph.specs.Spelling.{vertex_spelling}
use Rattle.job_graph.proofs.spelling.write_vertices.Given as goal

abbrev pub invariant-loop-i : goal.invariant-loop-i
invariant-loop-i l = l.out.items ++ flat_map vertex_spelling (drop l.i l.job.vertices) ≡ l.initial.out.items ++ flat_map vertex_spelling l.job.vertices
