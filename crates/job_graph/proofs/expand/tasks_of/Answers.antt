use Rattle.std.proofs.Common.{◌≤◌, length, rules}
use Rattle.job_graph.specs.Expansion.{task_kinds_of}
use Rattle.job_graph.proofs.Ends.{sum_small}
use Rattle.job_graph.proofs.expand.tasks_of.Goals as goal

pub returns-clause-sum : goal.returns-clause-sum
returns-clause-sum c = sum_small c.args.job.now.vertices c.in_ok-parallelisms.parallelisms.items c.in_ok-parallelisms.ensures (let few : length (task_kinds_of c.args.job.now) ≤ 256 = search rules in few)
