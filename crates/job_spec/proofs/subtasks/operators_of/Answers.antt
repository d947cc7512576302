use Rattle.job_spec.specs.Job.{vertices_view, operators_in}
use Rattle.job_spec.proofs.FlatSteps.{flat_map_step}
use Rattle.job_spec.proofs.subtasks.operators_of.Goals as goal

pub loop-i-preserved : goal.loop-i-preserved
loop-i-preserved c = flat_map_step operators_in (vertices_view c.args.vertices.now.entries) c.loop-i.i _ _ _ _ c.vertex_at.ensures c.in_ok-push_operators.ensures c.loop-i.invariant
