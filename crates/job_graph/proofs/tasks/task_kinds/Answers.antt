use Rattle.job_spec.proofs.FlatSteps.{flat_map_step}
use Rattle.job_graph.specs.Expansion.{subtasks_of}
use Rattle.job_graph.proofs.tasks.task_kinds.Goals as goal

pub loop-i-preserved : goal.loop-i-preserved
loop-i-preserved c = flat_map_step subtasks_of c.args.job.now.vertices c.loop-i.i _ _ _ _ c.vertex.ensures c.in_ok-push_subtasks.ensures c.loop-i.invariant
