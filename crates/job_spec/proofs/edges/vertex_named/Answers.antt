use Rattle.job_spec.proofs.VertexLemmas.{numbered_from, gives_or_fault}
use Rattle.job_spec.proofs.edges.vertex_named.Goals as goal

pub returns : goal.returns
returns c = rw (c.ok_or.ensures.value, numbered_from c.args.name.now c.args.vertices.now.entries c.get_full.result c.get_full.ensures.index c.get_full.ensures.entry) (gives_or_fault _ c.get_full.result)
