use Rattle.std.proofs.Common.{◌≡◌, ◌<◌, ◌++◌, ◌∷◌, [], length, map, take, get_or, sym, ap, ◌∙◌}
use Rattle.std.proofs.lemmas.List.{append-nil, take_more}
use Rattle.std.proofs.lemmas.List.Concat.{flat_map-append}
use Rattle.deliveries.specs.Deliveries.{fanned_by, numbers_at}
use Rattle.deliveries.proofs.fans.Fans.fanned.Goals as goal

pub loop-each-preserved : goal.loop-each-preserved
loop-each-preserved g c =
    let first = c.args.self.first.items in
    let second = c.args.self.second.items in
    let sent = c.args.sent.now in
    let i = c.loop-each.each-index in
    let each = c.each-item.result in
    let less : i < length sent = c.loop-each-test.true in
    let at = c.each-item.is in
    let is : get_or sent i each ≡ each = cc in
    let here = map (λ n. (n, each.1)) (numbers_at first second each.0) in
    c.in_ok-put_copies.ensures
    ∙ ap (λ l. c.loop-each.rows.items ++ map (λ n. (n, each.1)) l) c.numbers.ensures
    ∙ ap (λ l. l ++ here) c.loop-each.invariant
    ∙ ap (λ l. fanned_by first second (take i sent) ++ l) (sym (append-nil here))
    ∙ sym (flat_map-append (λ s. map (λ n. (n, s.1)) (numbers_at first second s.0)) (take i sent) (each ∷ []))
    ∙ ap (fanned_by first second) (ap (λ x. take i sent ++ x ∷ []) (sym is) ∙ sym (take_more sent i each less))
