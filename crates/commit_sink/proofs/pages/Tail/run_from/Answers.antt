use Rattle.std.proofs.Common.{◌<◌, ◌/◌, ◌%◌, ◌++◌, ◌∙◌, length, drop, sym, subst, ap, arith}
use Rattle.commit_sink.specs.declared.pages.TheConstants.{PAGE}
use Rattle.commit_sink.specs.Pages.{joined}
use Rattle.commit_sink.specs.Runs.{IsRunFrom}
use Rattle.commit_sink.proofs.Paged.{last-inside, run-last, run-page}
use Rattle.commit_sink.proofs.pages.Tail.run_from.Goals as goal

pub returns-then-page-len : goal.returns-then-page-len
returns-then-page-len g c =
    let pages = c.self.inside.full.items in
    let last = c.self.inside.last.items in
    let place = c.args.place in
    subst (λ all. IsRunFrom all place c.items_from.result.now) c.self.view_is
    (subst (IsRunFrom (joined pages ++ last) place)
    (sym (c.items_from.ensures ∙ ap (λ page. drop (place % PAGE) page.items) c.index.ensures))
    (run-page pages last place (place / PAGE) (place % PAGE) c.index.result.now c.self.invariant (omega (arith, c.self.inside.full.ok.0)) (omega arith) (omega arith)))

pub items_from-requires-2 : goal.items_from-requires-2
items_from-requires-2 g c =
    last-inside c.self.inside.full.items c.self.inside.last.items c.args.place c.len-2.result c.self.invariant (c.len-2.ensures ∙ c.self.inside.full.ok.0) (omega arith)
    (subst (λ all. c.args.place < length all) (sym c.self.view_is) c.requires)

pub returns : goal.returns
returns g c =
    let pages = c.self.inside.full.items in
    let last = c.self.inside.last.items in
    subst (λ all. IsRunFrom all c.args.place c.items_from-2.result.now) c.self.view_is
    (subst (IsRunFrom (joined pages ++ last) c.args.place) (sym c.items_from-2.ensures)
    (run-last pages last c.args.place c.len-2.result c.self.invariant (c.len-2.ensures ∙ c.self.inside.full.ok.0) (omega arith)
    (subst (λ all. c.args.place < length all) (sym c.self.view_is) c.requires)))
