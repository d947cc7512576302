use Rattle.std.proofs.Common.{◌≡◌, ◌≤◌, ◌+◌, ◌++◌, ℕ, length}
use Rattle.job_state.specs.Sending.{contents_items, items_at, put_into, as_puts, room_at}
use Rattle.job_state.proofs.ready.push_rows.Given as goal

-- what was met so far is put, and each channel has room left for the others
abbrev pub invariant-loop-number : goal.invariant-loop-number
invariant-loop-number g l = record {
  puts : (k : ℕ) → items_at (contents_items l.channels) k ≡ items_at (contents_items l.fn.channels) k ++ put_into k (as_puts l.yielded);
  same_length : length l.channels ≡ length l.fn.channels;
  room : (k : ℕ) → length (put_into k (as_puts l.fn.rows.items)) ≤ room_at l.channels k + length (put_into k (as_puts l.yielded));
}
