use Rattle.job_spec.specs.Job.{Vertex}
use Rattle.job_graph.proofs.Growing.{map_step}
use Rattle.job_graph.proofs.tasks.parallelisms.Goals as goal

pub loop-i-preserved : goal.loop-i-preserved
loop-i-preserved c = map_step (λ (v : Vertex). v.parallelism) c.args.job.now.vertices c.loop-i.i _ _ _ _ c.vertex.ensures c.in_ok-push.ensures.items c.loop-i.invariant
