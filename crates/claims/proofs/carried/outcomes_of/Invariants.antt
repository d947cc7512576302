use Rattle.std.proofs.Common.{◌≡◌, drop}
use Rattle.abs_codec.specs.Spelling.{Fits}
use Rattle.operators.specs.Operator.{IsGoodState}
use Rattle.claims.specs.Left.{AllGood}
use Rattle.claims.specs.Places.{given_at, left_at}
use Rattle.claims.proofs.Working.{IsWorking}
use Rattle.claims.proofs.carried.outcomes_of.Given as goal

abbrev pub invariant-loop-row : goal.invariant-loop-row
invariant-loop-row g l = record {
  works : IsWorking g.O.Operator.meaning g.O.Key.Ord.cmp l.operand (drop l.row-index l.operand.rows.items) (left_at l.left.items) l.sent.items;
  given : given_at l.left.items ≡ l.operand.states;
  good : AllGood g.O.Key.Ord.cmp (IsGoodState (Fits g.O.State.Codec.HasSpelling g.O.State.Codec.spelling) g.O.Operator.Suits l.operand.operator) (left_at l.left.items);
}
