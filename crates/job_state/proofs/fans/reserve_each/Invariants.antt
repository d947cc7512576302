use Rattle.std.proofs.Common.{◌≡◌, ◌≤◌, ◌+◌, ℕ, take}
use Rattle.job_state.specs.Sending.{contents_items, room_at, waiting_in}
use Rattle.job_state.proofs.fans.reserve_each.Given as goal

-- the channels met so far have their room
abbrev pub invariant-loop-number : goal.invariant-loop-number
invariant-loop-number g l = record {
  same : contents_items l.channels ≡ contents_items l.fn.channels;
  room : (k : ℕ) → room_at l.fn.channels k + waiting_in (take l.number-index l.numbers) l.count k ≤ room_at l.channels k;
}
