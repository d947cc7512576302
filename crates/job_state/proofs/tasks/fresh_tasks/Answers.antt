use Rattle.std.proofs.Common.{◌≡◌, List, [], ◌∷◌, None, map, replicate, refl, sym, ap, ◌∙◌}
use Rattle.std.proofs.lemmas.Iterator.Adapters.{YieldsList-from_vec}
use Rattle.std.proofs.lemmas.Iterator.Consumers.{YieldsList-end}
use Rattle.job_state.proofs.tasks.fresh_tasks.Goals as goal

as_they_are : {A : Type 0} (xs : List A) → map (λ y. y) xs ≡ xs
as_they_are [] = refl
as_they_are (x ∷ xs) = ap (λ l. x ∷ l) (as_they_are xs)

pub returns-clause-holdings : goal.returns-clause-holdings
returns-clause-holdings g c =
    let b = c.into_iter-holding-iterator.ensures.into_iter_gives in
    let each = YieldsList-from_vec {s = c.into_iter-holding-iterator.result} c.args.holdings.items b.0 (b.1 ∙ c.args.holdings.ok.0) in
    let met = YieldsList-end each c.loop-holding.yielded c.loop-holding.holding-iterator c.loop-holding.yielded_by c.next.result c.next.new.self c.in-None.is c.next.ensures.steps in
    c.loop-holding.invariant.holdings ∙ sym (as_they_are c.loop-holding.yielded) ∙ met.0

pub returns-clause-copies : goal.returns-clause-copies
returns-clause-copies g c =
    let b = c.into_iter-holding-iterator.ensures.into_iter_gives in
    let each = YieldsList-from_vec {s = c.into_iter-holding-iterator.result} c.args.holdings.items b.0 (b.1 ∙ c.args.holdings.ok.0) in
    let met = YieldsList-end each c.loop-holding.yielded c.loop-holding.holding-iterator c.loop-holding.yielded_by c.next.result c.next.new.self c.in-None.is c.next.ensures.steps in
    c.loop-holding.invariant.copies ∙ ap (λ n. replicate n None) met.1
