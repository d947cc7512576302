use Rattle.std.proofs.Common.{◌≡◌, [], replicate}
use Rattle.job_state.specs.Sending.{contents_items}
use Rattle.job_state.proofs.openings.empty_channels.Given as goal

abbrev pub invariant-loop-number : goal.invariant-loop-number
invariant-loop-number g l = contents_items l.channels.items ≡ replicate l.number []
