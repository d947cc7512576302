use Rattle.std.proofs.Common.{◌≡◌, ◌∙◌, length, refl, sym, arith, rules}
use Rattle.std.proofs.lemmas.Result.{err_from_is_err_and}
use Rattle.script_file.specs.Steps.{step_at}
use Rattle.script_file.proofs.ListLemmas.{fails_bind, fails_along, each_next, each_done}
use Rattle.script_file.proofs.step.steps.Goals as goal

pub returns-in_err-step : goal.returns-in_err-step
returns-in_err-step c =
    let p = err_from_is_err_and c.from_residual.result c.from_residual.ensures.1 in
    let count : c.len.result ≡ length c.loop-item.found.items = search rules in
    let next = each_next step_at c.loop-item.found.items c.args.items.now c.loop-item.item-index c.item-item.result c.len.result count c.loop-item-test.true c.item-item.is in
    rw (p.1, p.2) (fails_along _ _ _ (sym next ∙ c.loop-item.invariant) (fails_bind c.in_err-step.field-0.0 _ _ c.in_err-step.ensures))

pub loop-item-preserved : goal.loop-item-preserved
loop-item-preserved c =
    let count : c.len.result ≡ length c.loop-item.found.items = search rules in
    let next = each_next step_at c.loop-item.found.items c.args.items.now c.loop-item.item-index c.item-item.result c.len.result count c.loop-item-test.true c.item-item.is in
    rw c.in_ok-push.ensures.items (sym (next ∙ rw c.in_ok-step.ensures refl) ∙ c.loop-item.invariant)

pub returns : goal.returns
returns c = sym c.loop-item.invariant ∙ each_done step_at c.loop-item.found.items c.args.items.now c.loop-item.item-index (omega arith)
