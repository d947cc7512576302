use Rattle.std.proofs.Common.{◌≡◌, ◌∷◌, [], ◌++◌, sym, ap, subst, ◌∙◌}
use Rattle.std.specs.List.{IsAmong}
use Rattle.claims.proofs.Keys.{among_more, among_last}
use Rattle.claims.proofs.offers.push_key.Goals as goal

pub returns-in_ok-push-clause-stay : goal.returns-in_ok-push-clause-stay
returns-in_ok-push-clause-stay g c = λ q among.
    let is = c.in_ok-push.ensures.items ∙ ap (λ keys. keys ++ c.in-Some.key ∷ []) c.make_room.ensures in
    subst (λ keys. IsAmong keys q) (sym is) (among_more c.args.keys.now.items c.in-Some.key q among)

pub returns-in_ok-push-clause-there : goal.returns-in_ok-push-clause-there
returns-in_ok-push-clause-there g c = λ q is.
    let items = c.in_ok-push.ensures.items ∙ ap (λ keys. keys ++ c.in-Some.key ∷ []) c.make_room.ensures in
    let same : c.in-Some.key ≡ q = cc in
    subst (λ keys. IsAmong keys q) (sym items) (subst (λ k. IsAmong (c.args.keys.now.items ++ c.in-Some.key ∷ []) k) same (among_last c.args.keys.now.items c.in-Some.key))

pub returns-in_default-clause-there : goal.returns-in_default-clause-there
returns-in_default-clause-there g c = λ q is. absurd (c.in_default.not-Some q is)
