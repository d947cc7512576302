-- How far the sinks have committed: their committed transactions, and the checkpoint that the last one is of.
use Rattle.std.specs.Prelude.{ℕ, zero, suc, List, filter, length, slice_get, Option, None}
use Rattle.std.specs.List.{range_with_len}
use Rattle.commit_sink.specs.Ledger.{Ledger, is_of}
use Rattle.snapshot_store.specs.Store.{Stored, is_complete}

-- the numbers of a subtask's committed transactions, in the order of commit
abbrev pub committed_of : Ledger → ℕ → List ℕ
committed_of ledger subtask = filter (is_of ledger subtask) ledger.committed

-- the numbers of the complete checkpoints, rising
abbrev pub complete_numbers : Stored → List ℕ
complete_numbers stored = filter (is_complete stored) (range_with_len 0 stored.next)

-- the last of the first so many complete checkpoints
abbrev pub last_of_first : Stored → ℕ → Option ℕ
last_of_first stored zero = None
last_of_first stored (suc j) = slice_get (complete_numbers stored) j

-- The checkpoint that a subtask has committed last: it stands among the complete ones where the subtask's last committed transaction stands
-- among its committed ones. A subtask without a committed transaction has none.
abbrev pub last_committed : Stored → Ledger → ℕ → Option ℕ
last_committed stored ledger subtask = last_of_first stored (length (committed_of ledger subtask))
