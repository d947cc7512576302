use Rattle.std.proofs.Common.{◌≤◌, arith, rules}
use Rattle.job_graph.proofs.NoChannels.{outlets_past, outlets_above}
use Rattle.job_graph.proofs.graph.Graph.outlets.Goals as goal

pub returns-in_default : goal.returns-in_default
returns-in_default c = outlets_past c.args.self.now c.args.task c.args.port c.links.ensures.expanded c.in_default.ensures.none

pub returns-in-0 : goal.returns-in-0
returns-in-0 c = rw c.in-0.is (search (rules, c.in-Some.ensures.some))

pub returns-in-1 : goal.returns-in-1
returns-in-1 c = rw c.in-1.is (search (rules, c.in-Some.ensures.some))

pub returns-in_default-port : goal.returns-in_default-port
returns-in_default-port c =
    let above : 2 ≤ c.args.port = omega arith in
    outlets_above c.args.self.now c.args.task c.args.port c.links.ensures.expanded above
