use Rattle.std.proofs.Common.{◌≡◌, [], drop}
use Rattle.serde_json.specs.View.{items_view}
use Rattle.job_spec.specs.Job.{vertices_view}
use Rattle.job_spec.specs.Reading.{vertices_after}
use Rattle.job_spec.proofs.vertices.vertices.Given as goal

-- those found so far and those to come are all
abbrev pub invariant-loop-item : goal.invariant-loop-item
invariant-loop-item l = vertices_after (vertices_view l.found.entries) (items_view (drop l.item-index l.items)) ≡ vertices_after [] (items_view l.items)
