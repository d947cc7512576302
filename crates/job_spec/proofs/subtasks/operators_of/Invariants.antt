use Rattle.std.proofs.Common.{◌≡◌, ◌++◌, map, drop}
use Rattle.std.specs.List.{flat_map}
use Rattle.job_spec.specs.Job.{operator_view, vertices_view, operators_in}
use Rattle.job_spec.proofs.subtasks.operators_of.Given as goal

abbrev pub invariant-loop-i : goal.invariant-loop-i
invariant-loop-i l = map operator_view l.operators.items ++ flat_map operators_in (drop l.i (vertices_view l.vertices.entries)) ≡ flat_map operators_in (vertices_view l.vertices.entries)
