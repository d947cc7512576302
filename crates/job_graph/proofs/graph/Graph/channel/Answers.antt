use Rattle.job_graph.proofs.Joined.{joined_if_some}
use Rattle.job_graph.proofs.graph.Graph.channel.Goals as goal

pub returns-clause-joined : goal.returns-clause-joined
returns-clause-joined c = joined_if_some c.args.self.now c.args.number c.stored.result c.stored.ensures.expanded c.stored.ensures.value
