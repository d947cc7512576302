use Rattle.std.proofs.Common.{◌∷◌, [], ◌∙◌}
use Rattle.job_state.proofs.Putting.{are_channels}
use Rattle.job_state.proofs.Received.{deliveries_are_put}
use Rattle.job_state.proofs.sending.reserve_row.Goals as goal

pub reserve_all-requires : goal.reserve_all-requires
reserve_all-requires g c = are_channels (c.deref.ensures.value ∙ c.in_ok-puts.ensures) c.requires (deliveries_are_put g.O.Operator.meaning c.args.graph.now c.args.task ((0, c.args.row) ∷ []))
