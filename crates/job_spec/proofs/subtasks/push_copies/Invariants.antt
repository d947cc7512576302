use Rattle.std.proofs.Common.{◌≡◌, ◌++◌, map, replicate}
use Rattle.job_spec.specs.Job.{operator_view}
use Rattle.job_spec.proofs.subtasks.push_copies.Given as goal

abbrev pub invariant-loop-subtask : goal.invariant-loop-subtask
invariant-loop-subtask l = map operator_view l.operators.items ≡ map operator_view l.initial.operators.items ++ replicate l._subtask (operator_view l.operator)
