use Rattle.std.proofs.Common.{◌≤◌, arith}
use Rattle.job_graph.specs.Expanded.{outlets_of}
use Rattle.job_graph.proofs.NoChannels.{outlets_past, outlets_above, no_runs}
use Rattle.job_graph.proofs.graph.Graph.runs.Goals as goal

pub returns-in_default : goal.returns-in_default
returns-in_default c =
    no_runs c.args.self.now.channels (outlets_of c.args.self.now c.args.task c.args.port) (outlets_past c.args.self.now c.args.task c.args.port c.links.ensures.expanded c.in_default.ensures.none)

pub returns-in_default-port : goal.returns-in_default-port
returns-in_default-port c =
    let above : 2 ≤ c.args.port = omega arith in
    no_runs c.args.self.now.channels (outlets_of c.args.self.now c.args.task c.args.port) (outlets_above c.args.self.now c.args.task c.args.port c.links.ensures.expanded above)
