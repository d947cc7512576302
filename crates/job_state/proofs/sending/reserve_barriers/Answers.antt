use Rattle.std.proofs.Common.{◌∙◌}
use Rattle.job_state.proofs.Putting.{are_channels}
use Rattle.job_state.proofs.Received.{barriers_are_put}
use Rattle.job_state.proofs.sending.reserve_barriers.Goals as goal

pub reserve_all-requires : goal.reserve_all-requires
reserve_all-requires g c = are_channels (c.deref.ensures.value ∙ c.in_ok-puts.ensures) c.requires (barriers_are_put g.row.R.Denot c.args.graph.now c.args.task c.args.checkpoint)
