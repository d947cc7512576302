use Rattle.std.proofs.Common.{Some, ap, ◌∙◌}
use Rattle.operator_state.proofs.Handing.{puts}
use Rattle.operator_state.proofs.handed.Side.put.Goals as goal

pub try_push_as-requires-clause-rule : goal.try_push_as-requires-clause-rule
try_push_as-requires-clause-rule g c = puts g.K.Ord.cmp g.K.Codec.HasSpelling g.K.Codec.spelling g.S.Codec.HasSpelling g.S.Codec.spelling _ _ _ c.args.self.now _ (c.self.invariant.1 ∙ ap Some c.self.view_is) c.requires
