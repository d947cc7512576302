use Rattle.std.proofs.Common.{All, Option, refl, subst, sym, ◌∙◌}
use Rattle.std.proofs.lemmas.Bool.{false≢true}
use Rattle.std.proofs.lemmas.List.Elements.{All-nil}
use Rattle.abs_codec.proofs.Entries.{each_goes_on, some_goes_on, some_here}
use Rattle.claims.proofs.Copies.{rest_of, walk_more, walk_done, found_each}
use Rattle.claims.proofs.Working.{Has, same_by_place, place_by_place}
use Rattle.claims.proofs.due.has_copied.Goals as goal

pub loop-key-preserved : goal.loop-key-preserved
loop-key-preserved g c =
    let all = c.args.copies.now in
    let before = rest_of c.loop-key.key-iterator in
    let after = rest_of c.next.new.self in
    let turn = walk_more c.loop-key.key-iterator c.next.new.self c.next.result (c.in-Some.key, c.in-Some.state) c.in-Some.is c.next.ensures.steps in
    let x : g.row.O-Key.Denot × Option g.row.O-State.Denot = (c.in-Some.key.now, c.in-Some.state.now) in
    record {
      each = λ entries held. each_goes_on (Has g.O.Key.Ord.cmp entries) all before after x turn ((c.has_state.ensures entries held).0 c.if-not-has_state.false ∙ c.state.ensures) (c.loop-key.invariant.each entries held);
      some = λ entries held. some_goes_on (Has g.O.Key.Ord.cmp entries) all before after x turn (c.loop-key.invariant.some entries held);
    }

pub returns-then-not-has_state : goal.returns-then-not-has_state
returns-then-not-has_state g c = λ entries held.
    let all = c.args.copies.now in
    let before = rest_of c.loop-key.key-iterator in
    let after = rest_of c.next.new.self in
    let turn = walk_more c.loop-key.key-iterator c.next.new.self c.next.result (c.in-Some.key, c.in-Some.state) c.in-Some.is c.next.ensures.steps in
    let x : g.row.O-Key.Denot × Option g.row.O-State.Denot = (c.in-Some.key.now, c.in-Some.state.now) in (
      λ e. absurd (false≢true e),
      λ same. absurd (false≢true (sym c.if-not-has_state.true ∙ (c.has_state.ensures entries held).1 (some_here (Has g.O.Key.Ord.cmp entries) all before after x turn (c.loop-key.invariant.some entries held) (place_by_place g.met.O.Operator.key_is_exact entries all (found_each g.met.O.Key.Ord.total all c.columns.ensures.rising) same) ∙ sym c.state.ensures))),
    )

pub returns : goal.returns
returns g c = λ entries held.
    let every = c.loop-key.invariant.each entries held (subst (All (Has g.O.Key.Ord.cmp entries)) (sym (walk_done c.loop-key.key-iterator c.next.new.self c.next.result c.in-None.is c.next.ensures.steps)) (All-nil (Has g.O.Key.Ord.cmp entries))) in
    (λ _. same_by_place g.met.O.Operator.key_is_exact entries c.args.copies.now every, λ _. refl)
