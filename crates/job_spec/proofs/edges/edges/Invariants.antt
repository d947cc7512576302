use Rattle.std.proofs.Common.{◌≡◌, [], drop}
use Rattle.serde_json.specs.View.{items_view}
use Rattle.job_spec.specs.Job.{vertices_view}
use Rattle.job_spec.specs.Reading.{edges_after}
use Rattle.job_spec.proofs.edges.edges.Given as goal

-- those found so far and those to come are all
abbrev pub invariant-loop-item : goal.invariant-loop-item
invariant-loop-item l = let vs = vertices_view l.vertices.entries in edges_after vs l.found.items (items_view (drop l.item-index l.items)) ≡ edges_after vs [] (items_view l.items)
