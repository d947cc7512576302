use Rattle.std.proofs.Common.{◌∙◌, refl, sym, arith}
use Rattle.std.proofs.lemmas.Result.{err_from_is_err_and}
use Rattle.job_spec.specs.Job.{vertices_view}
use Rattle.job_spec.proofs.Faults.{fails_bind, fails_along}
use Rattle.job_spec.proofs.EdgeLemmas.{edges_next, edges_done}
use Rattle.job_spec.proofs.edges.edges.Goals as goal

pub returns-in_err-edge : goal.returns-in_err-edge
returns-in_err-edge c =
    let p = err_from_is_err_and c.from_residual.result c.from_residual.ensures.1 in
    let next = edges_next (vertices_view c.args.vertices.now.entries) c.loop-item.found.items c.args.items.now c.loop-item.item-index c.item-item.result c.loop-item-test.true c.item-item.is in
    rw (p.1, p.2) (fails_along _ _ _ (sym next ∙ c.loop-item.invariant) (fails_bind c.in_err-edge.field-0.0 _ _ c.in_err-edge.ensures))

pub loop-item-preserved : goal.loop-item-preserved
loop-item-preserved c =
    let next = edges_next (vertices_view c.args.vertices.now.entries) c.loop-item.found.items c.args.items.now c.loop-item.item-index c.item-item.result c.loop-item-test.true c.item-item.is in
    rw c.in_ok-push.ensures.items (sym (next ∙ rw c.in_ok-edge.ensures refl) ∙ c.loop-item.invariant)

pub returns : goal.returns
returns c = sym c.loop-item.invariant ∙ edges_done (vertices_view c.args.vertices.now.entries) c.loop-item.found.items c.args.items.now c.loop-item.item-index (omega arith)
