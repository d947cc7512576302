use Rattle.std.proofs.Common.{sym, ap, ◌∙◌}
use Rattle.std.specs.Option.{option_copied}
use Rattle.abs_codec.specs.Spelling.{Fits}
use Rattle.operators.specs.Operator.{IsGoodState}
use Rattle.claims.specs.Places.{left_at}
use Rattle.claims.proofs.Working.{found_good}
use Rattle.claims.proofs.carried.outcome_of.Goals as goal

pub apply-requires-2-clause-state : goal.apply-requires-2-clause-state
apply-requires-2-clause-state g c =
    let p = c.args.operand.now in
    found_good g.O.Operator.meaning g.O.Key.Ord.cmp (IsGoodState (Fits g.O.State.Codec.HasSpelling g.O.State.Codec.spelling) g.O.Operator.Suits p.operator) p.states (left_at c.args.left.now) (g.O.Operator.meaning.key p.operator c.args.row.now) c.in-Some.state.now c.requires.operand.good c.requires.good
    (sym c.requires.state ∙ sym c.state_of.ensures ∙ ap option_copied c.in-Some.is)
