use Rattle.operator_state.proofs.Handing.{forks}
use Rattle.operator_state.proofs.handed.Side.both.Goals as goal

pub another-other-requires-clause-rule : goal.another-other-requires-clause-rule
another-other-requires-clause-rule g c = forks g.K.Ord.cmp g.K.Codec.HasSpelling g.K.Codec.spelling g.S.Codec.HasSpelling g.S.Codec.spelling _ _ c.args.lent c.in_ok-line.ensures.1
