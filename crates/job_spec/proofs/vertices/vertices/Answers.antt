use Rattle.std.proofs.Common.{◌≡◌, ◌∙◌, ◌++◌, ◌∷◌, [], None, refl, sym, arith}
use Rattle.std.specs.HashMap.{get}
use Rattle.std.specs.String.{string_eq}
use Rattle.std.proofs.lemmas.Result.{err_from_is_err_and}
use Rattle.std.proofs.lemmas.List.{map_push}
use Rattle.indexmap.proofs.CallerLemmas.{insert_entry-new}
use Rattle.job_spec.specs.Job.{vertex_view, vertices_view}
use Rattle.job_spec.proofs.Faults.{fails_bind, fails_along}
use Rattle.job_spec.proofs.VertexLemmas.{none_from_false, vertices_next, vertices_done, is_some-lookup}
use Rattle.job_spec.proofs.vertices.vertices.Goals as goal

pub returns-in_err-name : goal.returns-in_err-name
returns-in_err-name c =
    let p = err_from_is_err_and c.from_residual.result c.from_residual.ensures.1 in
    let next = vertices_next (vertices_view c.loop-item.found.entries) c.args.items.now c.loop-item.item-index c.item-item.result c.loop-item-test.true c.item-item.is in
    rw (p.1, p.2) (fails_along _ _ _ (sym next ∙ c.loop-item.invariant) (fails_bind c.in_err-name.field-0.0 _ _ c.in_err-name.ensures))

pub returns-then-contains_key : goal.returns-then-contains_key
returns-then-contains_key c =
    let next = vertices_next (vertices_view c.loop-item.found.entries) c.args.items.now c.loop-item.item-index c.item-item.result c.loop-item-test.true c.item-item.is in
    let there = sym (is_some-lookup c.in_ok-name.name c.loop-item.found.entries) ∙ sym c.contains_key.ensures ∙ c.if-contains_key.true in
    sym c.loop-item.invariant ∙ next ∙ rw (c.in_ok-name.ensures, there) refl

pub loop-item-preserved : goal.loop-item-preserved
loop-item-preserved c =
    let old = c.loop-item.found in
    let name = c.in_ok-name.name in
    let spec = c.in_ok-name.spec in
    let next = vertices_next (vertices_view old.entries) c.args.items.now c.loop-item.item-index c.item-item.result c.loop-item-test.true c.item-item.is in
    let new_name = is_some-lookup name old.entries in
    let apart = sym new_name ∙ sym c.contains_key.ensures ∙ c.if-contains_key.false in
    let none : get string_eq old name ≡ None = none_from_false _ (sym c.contains_key.ensures ∙ c.if-contains_key.false) in
    let entries : vertices_view c.insert.new.self.entries ≡ vertices_view old.entries ++ vertex_view (name, spec) ∷ [] =
    rw (c.in_ok-insert.ensures.entries, insert_entry-new string_eq old name spec none) (map_push vertex_view old.entries (name, spec)) in
    rw entries (sym (next ∙ rw (c.in_ok-name.ensures, apart) refl) ∙ c.loop-item.invariant)

pub returns : goal.returns
returns c = sym c.loop-item.invariant ∙ vertices_done (vertices_view c.loop-item.found.entries) c.args.items.now c.loop-item.item-index (omega arith)
