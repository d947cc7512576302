use Rattle.std.proofs.Common.{◌≡◌, ◌++◌, drop}
use Rattle.std.specs.List.{flat_map}
use Rattle.job_graph.specs.Spelling.{edge_spelling}
use Rattle.job_graph.proofs.spelling.write_edges.Given as goal

abbrev pub invariant-loop-edge : goal.invariant-loop-edge
invariant-loop-edge l = l.out.items ++ flat_map edge_spelling (drop l.edge-index l.edges) ≡ l.initial.out.items ++ flat_map edge_spelling l.edges
