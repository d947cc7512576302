use Rattle.std.proofs.Common.{◌≡◌, ◌++◌, drop}
use Rattle.std.specs.List.{flat_map}
use Rattle.job_graph.specs.Expansion.{subtasks_of, task_kinds_of}
use Rattle.job_graph.proofs.tasks.task_kinds.Given as goal

abbrev pub invariant-loop-i : goal.invariant-loop-i
invariant-loop-i l = l.kinds.items ++ flat_map subtasks_of (drop l.i l.job.vertices) ≡ task_kinds_of l.job
