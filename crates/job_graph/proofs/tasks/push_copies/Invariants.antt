use Rattle.std.proofs.Common.{◌≡◌, ◌++◌, replicate}
use Rattle.job_graph.proofs.tasks.push_copies.Given as goal

abbrev pub invariant-loop-subtask : goal.invariant-loop-subtask
invariant-loop-subtask l = l.kinds.items ≡ l.initial.kinds.items ++ replicate l._subtask l.kind
