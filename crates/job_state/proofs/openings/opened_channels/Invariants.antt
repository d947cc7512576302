use Rattle.std.proofs.Common.{◌≡◌}
use Rattle.job_state.specs.Sending.{contents_items}
use Rattle.job_state.proofs.Opening.{opened_items}
use Rattle.job_state.proofs.openings.opened_channels.Given as goal

-- what was met so far stands in its channels
abbrev pub invariant-loop-number : goal.invariant-loop-number
invariant-loop-number g l = contents_items l.channels.items ≡ opened_items l.yielded l.count
