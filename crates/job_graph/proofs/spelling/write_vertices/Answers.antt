use Rattle.job_spec.proofs.FlatSteps.{flat_map_step}
use Rattle.job_graph.specs.Spelling.{vertex_spelling}
use Rattle.job_graph.proofs.spelling.write_vertices.Goals as goal

pub loop-i-preserved : goal.loop-i-preserved
loop-i-preserved c = flat_map_step vertex_spelling c.args.job.now.vertices c.loop-i.i _ _ _ _ c.vertex.ensures c.in_ok-write_vertex.ensures c.loop-i.invariant
