use Rattle.std.proofs.Common.{◌≡◌, ◌<◌, ℕ}
use Rattle.job_state.specs.Sending.{contents_items, room_at}
use Rattle.job_state.proofs.sending.release_all.Given as goal

-- the channels hold what they held, and those met so far have no room
abbrev pub invariant-loop-number : goal.invariant-loop-number
invariant-loop-number g l = record {
  room : (k : ℕ) → k < l.number → room_at l.channels k ≡ 0;
  same : contents_items l.channels ≡ contents_items l.fn.channels;
}
