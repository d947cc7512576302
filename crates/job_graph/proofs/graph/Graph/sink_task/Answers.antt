use Rattle.job_graph.proofs.Subtasks.{found_subtask, no_subtask}
use Rattle.job_graph.proofs.graph.Graph.sink_task.Goals as goal

pub returns-clause-found : goal.returns-clause-found
returns-clause-found c = found_subtask c.args.self.now c.args.subtask c.first_subtask.result c.first_subtask.ensures.first

pub returns-clause-none : goal.returns-clause-none
returns-clause-none c = no_subtask c.args.self.now c.args.subtask c.first_subtask.result c.first_subtask.ensures.expanded c.first_subtask.ensures.first
