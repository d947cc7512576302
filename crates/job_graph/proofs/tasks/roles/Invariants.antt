use Rattle.std.proofs.Common.{◌≡◌, map, length, take}
use Rattle.job_graph.specs.Expanded.{IsNumbered, task_kind}
use Rattle.job_graph.proofs.tasks.roles.Given as goal

abbrev pub invariant-loop-kind : goal.invariant-loop-kind
invariant-loop-kind l = record {
  len : length l.roles.items ≡ l.kind-index;
  kinds : map task_kind l.roles.items ≡ take l.kind-index l.kinds;
  numbered : IsNumbered l.roles.items;
}
