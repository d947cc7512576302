use Rattle.job_graph.specs.Spelling.{edge_spelling}
use Rattle.job_graph.proofs.Appends.{flat_map_next}
use Rattle.job_graph.proofs.spelling.write_edges.Goals as goal

pub loop-edge-preserved : goal.loop-edge-preserved
loop-edge-preserved c = flat_map_next edge_spelling c.args.edges.now c.loop-edge.edge-index _ _ _ _ c.loop-edge-test.true c.in_ok-write_edge.ensures c.loop-edge.invariant
