use Rattle.operator_state.proofs.Handing.{takes}
use Rattle.operator_state.proofs.handed.Side.take.Goals as goal

pub try_pop_as-requires-clause-rule : goal.try_pop_as-requires-clause-rule
try_pop_as-requires-clause-rule g c = takes _ _ _ _ _ _ _
