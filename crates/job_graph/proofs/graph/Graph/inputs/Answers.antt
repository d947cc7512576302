use Rattle.job_graph.proofs.NoChannels.{inputs_past}
use Rattle.job_graph.proofs.graph.Graph.inputs.Goals as goal

pub returns-in-None : goal.returns-in-None
returns-in-None c = inputs_past c.args.self.now c.args.task c.links.ensures.expanded c.in-None.ensures.none
