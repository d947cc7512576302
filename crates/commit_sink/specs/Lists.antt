-- Transactions as a list, and what they are before those that are committed are.
use Rattle.std.specs.Prelude.{◌≡◌, ◌≤◌, ◌==◌, ◌+◌, ℕ, List, [], length, count_by, None, Some, slice_get}
use Rattle.commit_sink.specs.declared.transactions.Progress.{Progress}
use Rattle.commit_sink.specs.declared.transactions.Progress.TheVariants.{Open, PreCommitted, Committed, Aborted}
use Rattle.commit_sink.specs.Ledger.{Transaction}

abbrev pub before_commit : Progress → Progress
before_commit Open = Open
before_commit (PreCommitted checkpoint) = PreCommitted checkpoint
before_commit Committed = PreCommitted 0
before_commit Aborted = Aborted

-- the same, and pre-committed where it is committed
abbrev pub to_commit : Transaction → Transaction
to_commit t = record t { progress = before_commit t.progress }

-- the transactions, of which these are committed and the others are as before
pub record AreSettled (transactions : List Transaction) (done : List ℕ) (now : List Transaction) : Type 0 where
  pub count : length now ≡ length transactions
  pub settled : (i : ℕ) (t : Transaction) → slice_get transactions i ≡ Some t → 1 ≤ count_by (λ n. n == i + 1) done → slice_get now i ≡ Some t
  pub others : (i : ℕ) (t : Transaction) → slice_get transactions i ≡ Some t → count_by (λ n. n == i + 1) done ≡ 0 → slice_get now i ≡ Some (to_commit t)

-- the records of the transaction at a place, from 0
abbrev pub records_at : List Transaction → ℕ → List (List ℕ)
records_at transactions index = elim (slice_get transactions index) [ None ↦ [] | Some t ↦ t.records ]
