use Rattle.std.proofs.Common.{◌++◌, refl, sym, ap, ◌∙◌}
use Rattle.std.proofs.lemmas.List.{append-nil}
use Rattle.claims.proofs.Copies.{rest_of, walk_more, walk_done}
use Rattle.claims.proofs.Places.{given_more, none_more}
use Rattle.claims.specs.Places.{given_at}
use Rattle.claims.proofs.left.places_of.Goals as goal

pub loop-key-preserved : goal.loop-key-preserved
loop-key-preserved g c =
    let before = c.loop-key.key-iterator in
    let after = c.next.new.self in
    let turn = walk_more before after c.next.result (c.in-Some.key, c.in-Some.given) c.in-Some.is c.next.ensures.steps in
    record {
      given = given_more c.loop-key.places.items c.push.new.self.items _ (rest_of before) (rest_of after) c.args.copies.now c.in_ok-push.ensures.items turn c.loop-key.invariant.given;
      none = none_more c.loop-key.places.items c.push.new.self.items _ c.in_ok-push.ensures.items refl c.loop-key.invariant.none;
    }

pub returns-clause-given : goal.returns-clause-given
returns-clause-given g c =
    let given = given_at c.loop-key.places.items in
    let done = walk_done c.loop-key.key-iterator c.next.new.self c.next.result c.in-None.is c.next.ensures.steps in
    sym (append-nil given) ∙ ap (λ es. given ++ es) (sym done) ∙ c.loop-key.invariant.given
