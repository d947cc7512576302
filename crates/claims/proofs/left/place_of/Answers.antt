use Rattle.std.proofs.Common.{◌≡◌, Some, sym, rules}
use Rattle.std.proofs.lemmas.Fn.{always_returns_same}
use Rattle.claims.proofs.Places.{searched}
use Rattle.claims.proofs.left.place_of.Goals as goal

pub returns : goal.returns
returns g c =
    let key = c.in_ok-key.key.now in
    let facts = c.binary_search_by.ensures in
    let by_key = facts.position (λ p. g.K.Ord.cmp p.key.now key) (always_returns_same _ _ _ (λ a r h called. (search rules, search rules))) in
    let is : c.args.key.now ≡ Some key = sym {a = Some key} c.in_ok-key.ensures.value in
    let both = searched g.met.K.Ord.total c.args.places.now c.args.key.now key c.binary_search_by.result c.ok.result is c.requires.rising c.requires.keyed facts.bound by_key c.ok.ensures.value in
    record { found = both.0; none = both.1 }
