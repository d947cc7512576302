use Rattle.std.proofs.Common.{◌≡◌, ◌∙◌, length, map, refl, sym, arith, rules}
use Rattle.std.proofs.lemmas.List.{length-map, map_push}
use Rattle.std.proofs.lemmas.Result.{err_from_is_err_and}
use Rattle.script_file.specs.Rows.{rows_at}
use Rattle.script_file.proofs.ListLemmas.{fails_bind, fails_along, each_next, each_done}
use Rattle.script_file.proofs.rows.partitions.Goals as goal

pub returns-in_err-rows : goal.returns-in_err-rows
returns-in_err-rows c =
    let p = err_from_is_err_and c.from_residual.result c.from_residual.ensures.1 in
    let count : c.len.result ≡ length (map (λ rows. rows.items) c.loop-item.found.items) = rw length-map (search rules) in
    let next = each_next rows_at (map (λ rows. rows.items) c.loop-item.found.items) c.args.items.now c.loop-item.item-index c.item-item.result c.len.result count c.loop-item-test.true c.item-item.is in
    rw (p.1, p.2) (fails_along _ _ _ (sym next ∙ c.loop-item.invariant) (fails_bind c.in_err-rows.field-0.0 _ _ c.in_err-rows.ensures))

pub loop-item-preserved : goal.loop-item-preserved
loop-item-preserved c =
    let count : c.len.result ≡ length (map (λ rows. rows.items) c.loop-item.found.items) = rw length-map (search rules) in
    let next = each_next rows_at (map (λ rows. rows.items) c.loop-item.found.items) c.args.items.now c.loop-item.item-index c.item-item.result c.len.result count c.loop-item-test.true c.item-item.is in
    rw (c.in_ok-push.ensures.items, map_push (λ rows. rows.items) c.loop-item.found.items c.in_ok-rows.rows) (sym (next ∙ rw c.in_ok-rows.ensures refl) ∙ c.loop-item.invariant)

pub returns : goal.returns
returns c = sym c.loop-item.invariant ∙ each_done rows_at (map (λ rows. rows.items) c.loop-item.found.items) c.args.items.now c.loop-item.item-index (omega arith)
