use Rattle.std.proofs.Common.{◌≡◌, ◌≤◌, ℕ, length, take}
use Rattle.job_state.specs.Sending.{contents_items, put_into, room_at}
use Rattle.job_state.proofs.sending.reserve_all.Given as goal

-- the channels hold what they held, and have room for what was met so far
abbrev pub invariant-loop-put : goal.invariant-loop-put
invariant-loop-put g l = record {
  same : contents_items l.channels ≡ contents_items l.fn.channels;
  room : (k : ℕ) → length (put_into k (take l.put-index l.puts)) ≤ room_at l.channels k;
}
