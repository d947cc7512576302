use Rattle.std.proofs.Common.{◌≡◌, ◌+◌, ◌<◌, ◌≤◌, ◌∷◌, drop, length, get_or, refl, sym, ap, subst, ◌∙◌}
use Rattle.std.specs.List.Sorted.{IsStrictlySortedBy}
use Rattle.std.specs.Map.{keys_of}
use Rattle.std.proofs.lemmas.List.{drop_more, drop_all}
use Rattle.abs_codec.specs.Spelling.{Fits}
use Rattle.operators.specs.Operator.{IsGoodState}
use Rattle.deliveries.specs.Deliveries.{AreFanned}
use Rattle.job_state.specs.Sending.{AreLanes}
use Rattle.claims.specs.Carried.{lanes_in}
use Rattle.claims.specs.Left.{AllGood, WorksRow}
use Rattle.claims.specs.Places.{given_at, left_at}
use Rattle.claims.proofs.Places.{left_rises, written}
use Rattle.claims.proofs.Working.{IsWorking, works_from_first, works_on, works_to_last, none_good}
use Rattle.claims.proofs.carried.outcomes_of.Goals as goal

pub loop-row-init : goal.loop-row-init
loop-row-init g c = record {
  works = works_from_first g.O.Operator.meaning g.O.Key.Ord.cmp c.args.operand.now (left_at c.in_ok-left.left.items) c.in_ok-sent.sent.items c.in_ok-left.ensures.none c.in_ok-sent.ensures.items;
  given = c.in_ok-left.ensures.given ∙ c.in-Some.ensures;
  good = none_good g.O.Key.Ord.cmp (IsGoodState (Fits g.O.State.Codec.HasSpelling g.O.State.Codec.spelling) g.O.Operator.Suits c.args.operand.now.operator) (left_at c.in_ok-left.left.items) c.in_ok-left.ensures.none;
}

pub work_row-requires-clause-given : goal.work_row-requires-clause-given
work_row-requires-clause-given g c = ap given_at c.deref_mut.ensures.value ∙ c.loop-row.invariant.given

pub work_row-requires-clause-good : goal.work_row-requires-clause-good
work_row-requires-clause-good g c =
    subst (λ ps. AllGood g.O.Key.Ord.cmp (IsGoodState (Fits g.O.State.Codec.HasSpelling g.O.State.Codec.spelling) g.O.Operator.Suits c.args.operand.now.operator) (left_at ps)) (sym c.deref_mut.ensures.value) c.loop-row.invariant.good

pub loop-row-preserved : goal.loop-row-preserved
loop-row-preserved g c =
    let p = c.args.operand.now in
    let row = c.row-item.result in
    let rest = drop (c.loop-row.row-index + 1) p.rows.items in
    let same = c.deref-row-items.ensures.value in
    let less : c.loop-row.row-index < length p.rows.items = subst (λ xs. c.loop-row.row-index < length xs) same c.loop-row-test.true in
    let at = c.row-item.is in
    let is : get_or p.rows.items c.loop-row.row-index row ≡ row = cc in
    let one : drop c.loop-row.row-index p.rows.items ≡ row ∷ rest = drop_more p.rows.items c.loop-row.row-index row less ∙ ap (λ r. r ∷ rest) is in
    let left = c.loop-row.left.items in
    let worked = c.work_row.new.left in
    let back = written c.loop-row.left.len worked left (c.work_row.auto.left ∙ c.deref_mut.ensures.len) in
    let was = c.deref_mut.ensures.value in
    let ensured = c.in_ok-work_row.ensures in
    record {
      works =
          subst (λ ps. IsWorking g.O.Operator.meaning g.O.Key.Ord.cmp p rest (left_at ps) c.work_row.new.sent.items) (sym back)
          (works_on g.O.Operator.meaning g.O.Key.Ord.cmp p row rest (left_at left) (left_at worked) c.loop-row.sent.items c.work_row.new.sent.items
          (subst (λ ps. WorksRow g.O.Operator.meaning g.O.Key.Ord.cmp p (left_at ps) row (left_at worked) c.loop-row.sent.items c.work_row.new.sent.items) was ensured.works)
          (subst (λ rs. IsWorking g.O.Operator.meaning g.O.Key.Ord.cmp p rs (left_at left) c.loop-row.sent.items) one c.loop-row.invariant.works));
      given = ap given_at back ∙ ensured.given ∙ ap given_at was ∙ c.loop-row.invariant.given;
      good = subst (λ ps. AllGood g.O.Key.Ord.cmp (IsGoodState (Fits g.O.State.Codec.HasSpelling g.O.State.Codec.spelling) g.O.Operator.Suits p.operator) (left_at ps)) (sym back) ensured.good;
    }

pub returns : goal.returns
returns g c =
    let p = c.args.operand.now in
    let all : length p.rows.items ≤ c.loop-row.row-index = subst (λ xs. length xs ≤ c.loop-row.row-index) c.deref-row-items.ensures.value c.loop-row-test.false in
    let left = c.loop-row.left.items in
    let rises = left_rises g.O.Key.Ord.cmp left (subst (λ es. IsStrictlySortedBy g.O.Key.Ord.cmp (keys_of es)) (sym c.loop-row.invariant.given) c.requires.rising) in
    works_to_last g.O.Operator.meaning g.O.Key.Ord.cmp p g.met.O.Key.Ord.total g.met.O.Operator.same_key (left_at left) c.loop-row.sent.items _ c.in_ok-states.ensures c.in_ok-outgoing.ensures (subst (λ ss. AreLanes g.O.Operator.meaning ss (lanes_in c.in_ok-lanes.lanes)) c.deref.ensures.value c.in_ok-lanes.ensures) (subst (λ ss. AreFanned ss c.in_ok-fanned.fanned) c.deref-2.ensures.value c.in_ok-fanned.ensures) rises
    (subst (λ rs. IsWorking g.O.Operator.meaning g.O.Key.Ord.cmp p rs (left_at left) c.loop-row.sent.items) (drop_all c.loop-row.row-index p.rows.items all) c.loop-row.invariant.works)
