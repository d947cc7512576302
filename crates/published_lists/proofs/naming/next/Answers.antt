use Rattle.std.proofs.Common.{◌≡◌, ◌==◌, ◌∙◌, ◌++◌, ◌∷◌, [], true, length, ap, sym, subst, arith}
use Rattle.std.proofs.lemmas.Bool.Decides.{nat_tests, when_true}
use Rattle.published_lists.specs.Rows.{EachBegins}
use Rattle.published_lists.specs.Operations.{staged}
use Rattle.published_lists.proofs.Histories.{Lists, one_more}
use Rattle.published_lists.proofs.Adding.{adds_moves}
use Rattle.published_lists.proofs.naming.next.Goals as goal

pub compare_exchange-found-requires : goal.compare_exchange-found-requires
compare_exchange-found-requires c =
    let h = c.head.invariant in
    let same = c.again-seen.ensures in
    let offer = c.plain-offer.ensures in
    let pen = c.no_pen-pen.ensures in
    let w = c.args.writer.now in
    let here : c.head.inside.word.book ≡ c.again-seen.result.book = c.head.view_is ∙ (c.requires.head ∙ (sym (ap (λ k. k.history) c.edition.view_is) ∙ sym (ap (λ s. s.book) same))) in
    let count : length c.again-seen.result.log ≡ c.edition.inside.count = ap (λ s. length s.log) same ∙ sym c.edition.invariant.0 in (
      ap (λ k. k.tracked) h,
      sym here,
      pen.0 ∙ sym here,
      offer.0,
      rw (ap (λ k. k.key) h, pen.1, offer.1, offer.3) (adds_moves c.again-seen.result.log (staged w.desk.shown.value w.behind w.log.items).lists c.edition.inside.count count),
    )

pub invariant_of-result : goal.invariant_of-result
invariant_of-result c =
    let w = c.args.writer.now in
    let e : Lists = (staged w.desk.shown.value w.behind w.log.items).lists in
    let log = c.edition.inside.seen.log in
    let more = c.compare_exchange-found.new.seen.log in
    let equal : (c.compare_exchange-found.result == c.edition.inside.count) ≡ true = grind (arith, nat_tests) in
    let added = when_true _ _ equal c.compare_exchange-found.ensures.7 in
    let is : more ≡ log ++ e ∷ [] = added ∙ (ap (λ s. s.log ++ c.plain-offer.result.ask ∷ []) c.again-seen.ensures ∙ ap (λ x. log ++ x ∷ []) c.plain-offer.ensures.1) in
    one_more log more e c.edition.inside.count c.edition.invariant.0 c.edition.invariant.1 (subst (λ k. EachBegins k.lists e) (sym c.edition.view_is) c.requires.begins) is
