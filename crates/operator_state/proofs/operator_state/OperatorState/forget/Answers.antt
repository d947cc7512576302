use Rattle.std.proofs.Common.{ap, arith}
use Rattle.operator_state.proofs.Copying.{nothing_held}
use Rattle.operator_state.proofs.operator_state.OperatorState.forget.Goals as goal

pub invariant_of-self : goal.invariant_of-self
invariant_of-self g c = (
  (omega arith, tt),
  nothing_held g.K.Ord.cmp g.met.K.Ord.total g.K.Codec.HasSpelling g.K.Codec.spelling g.K.Codec.reading g.met.K.Codec.code g.S.Codec.HasSpelling g.S.Codec.spelling g.S.Codec.reading g.met.S.Codec.code c.thaw.new.self.frozen (ap (λ m. m.frozen) c.thaw.ensures),
)
