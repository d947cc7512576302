use Rattle.operator_state.proofs.Handing.{begins, lays}
use Rattle.operator_state.proofs.handed.Side.laid.Goals as goal

pub ruled-requires-clause-rule : goal.ruled-requires-clause-rule
ruled-requires-clause-rule g c = begins g.K.Ord.cmp g.K.Codec.HasSpelling g.K.Codec.spelling g.S.Codec.HasSpelling g.S.Codec.spelling

pub try_push_as-requires-clause-rule : goal.try_push_as-requires-clause-rule
try_push_as-requires-clause-rule g c = lays g.K.Ord.cmp g.K.Codec.HasSpelling g.K.Codec.spelling g.S.Codec.HasSpelling g.S.Codec.spelling _ _ _ _ c.in_ok-line.ensures.3
