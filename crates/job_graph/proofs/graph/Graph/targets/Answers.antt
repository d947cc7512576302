use Rattle.std.proofs.Common.{rules}
use Rattle.job_graph.proofs.Targets.{targets_are}
use Rattle.job_graph.proofs.graph.Graph.targets.Goals as goal

pub returns : goal.returns
returns c = rw (targets_are c.args.self.now c.args.task c.args.port c.args.lane) (search rules)
