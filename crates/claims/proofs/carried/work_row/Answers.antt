use Rattle.std.proofs.Common.{sym, ap, subst, ◌∙◌}
use Rattle.std.specs.List.Sorted.{IsStrictlySortedBy}
use Rattle.std.specs.Map.{keys_of}
use Rattle.abs_codec.specs.Spelling.{Fits}
use Rattle.operators.specs.Operator.{IsGoodState}
use Rattle.claims.specs.Left.{AllGood, state_left}
use Rattle.claims.specs.Places.{left_at}
use Rattle.claims.proofs.Places.{state_is}
use Rattle.claims.proofs.Working.{works_at, works_keyless, good_at}
use Rattle.claims.proofs.carried.work_row.Goals.{in-Some, in_default}
use Rattle.claims.proofs.carried.work_row.Goals as goal

pub outcome_of-requires-clause-state : goal.outcome_of-requires-clause-state
outcome_of-requires-clause-state g c =
    let p = c.args.operand.now in
    let left = c.args.left.now in
    let key = c.in_ok-key.key in
    let found = c.place_of-place in
    state_is g.met.O.Key.Ord.total left key found.result (subst (λ es. IsStrictlySortedBy g.O.Key.Ord.cmp (keys_of es)) (sym c.requires.given) c.requires.operand.rising) found.ensures.found found.ensures.none
    ∙ ap (λ es. state_left g.O.Key.Ord.cmp es (left_at left) key) c.requires.given
    ∙ ap (λ k. state_left g.O.Key.Ord.cmp p.states (left_at left) k) c.in_ok-key.ensures

pub returns-clause-works : goal.returns-clause-works
returns-clause-works g c =
    let p = c.args.operand.now in
    let left = c.args.left.now in
    let key = c.in_ok-key.key in
    let made = c.in_ok-outcome in
    elim c.match-place.branch [
      | in-Some w ↦ works_at g.O.Operator.meaning g.O.Key.Ord.cmp p left c.match-place.left c.args.row.now c.args.sent.now.items c.put_last.new.sent.items made.outcome.sent.items made.outcome.state made.ensures.state made.ensures.sent c.in_ok-put_last.ensures g.met.O.Key.Ord.total g.met.O.Operator.same_key key w.in-Some.place c.in_ok-key.ensures w.in-Some.ensures.found w.put_at.new.places w.left-is w.put_at.ensures.left
      | in_default w ↦ works_keyless g.O.Operator.meaning g.O.Key.Ord.cmp p (left_at left) c.args.row.now (left_at c.match-place.left) c.args.sent.now.items c.put_last.new.sent.items made.outcome.sent.items made.outcome.state made.ensures.state made.ensures.sent c.in_ok-put_last.ensures (sym w.in_default.ensures.none ∙ c.in_ok-key.ensures) (ap left_at w.left-is)
    ]

pub returns-clause-good : goal.returns-clause-good
returns-clause-good g c =
    let Good = IsGoodState (Fits g.O.State.Codec.HasSpelling g.O.State.Codec.spelling) g.O.Operator.Suits c.args.operand.now.operator in
    elim c.match-place.branch [
      | in-Some w ↦ good_at g.met.O.Key.Ord.total g.O.Operator.meaning.same_key g.met.O.Operator.same_key Good c.args.left.now c.match-place.left c.in_ok-key.key w.in-Some.place c.in_ok-outcome.outcome.state w.in-Some.ensures.found w.put_at.new.places w.left-is w.put_at.ensures.left c.in_ok-outcome.ensures.good c.requires.good
      | in_default w ↦ subst (λ ps. AllGood g.O.Key.Ord.cmp Good (left_at ps)) (sym w.left-is) c.requires.good
    ]
