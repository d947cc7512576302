-- What is kept of each subtask, so that its committed records are found fast and a commit takes no memory.
use Rattle.std.specs.Prelude.{◌≡◌, ◌<◌, ◌≤◌, ◌+◌, ◌-◌, ◌^◌, ◌==◌, ◌&&◌, ℕ, Bool, true, false, if◌then◌else◌, Option, None, Some, List, [], ◌∷◌, ◌++◌, map, filter, count_by, sum_by, length, take, slice_get, unwrap_or}
use Rattle.std.specs.BTreeSet.{BTreeSet, insert_key}
use Rattle.std.specs.BTreeMap.{is_at}
use Rattle.std.specs.List.{flat_map}
use Rattle.std.specs.Ordering.{nat_cmp}
use Rattle.std.specs.Set.{remove_key}
use Rattle.commit_sink.specs.declared.share.End.{End}
use Rattle.commit_sink.specs.declared.share.Share.{Share}
use Rattle.commit_sink.specs.declared.transactions.Progress.{Progress}
use Rattle.commit_sink.specs.declared.transactions.Progress.TheVariants.{Open, PreCommitted, Committed, Aborted}
use Rattle.commit_sink.specs.Ledger.{Ledger, Transaction, IsOrdered, committed_rows, is_of, records_of, transaction_in, unsettled_as, unsettled_of}
use Rattle.commit_sink.specs.Ends.{rows_of}
use Rattle.commit_sink.specs.Roomy.{WithRoom}

-- whether it is neither committed nor aborted
abbrev pub has_unsettled : Progress → Bool
has_unsettled Open = true
has_unsettled (PreCommitted n) = true
has_unsettled Committed = false
has_unsettled Aborted = false

abbrev pub is_unsettled : Transaction → Bool
is_unsettled t = has_unsettled t.progress

abbrev pub is_unsettled_of : ℕ → Transaction → Bool
is_unsettled_of subtask t = t.subtask == subtask && is_unsettled t

-- how many records of a subtask it may yet add
abbrev pub pending_rows : ℕ → Transaction → ℕ
pending_rows subtask t = if is_unsettled_of subtask t then length t.records else 0

abbrev pub numbers_of : List End → List ℕ
numbers_of ends = map (λ e. e.transaction) ends

abbrev pub empty_share : Share
empty_share = record { ends = record { items = []; promised = 0 }; pending = 0; unsettled = record { keys = [] } }

abbrev pub share_at : List Share → ℕ → Share
share_at shares subtask = unwrap_or (slice_get shares subtask) empty_share

pub record IsShare (l : Ledger) (subtask : ℕ) (share : Share) : Type 0 where
  -- the subtask's committed transactions in the order of commit
  pub numbers : numbers_of share.ends.items ≡ filter (is_of l subtask) l.committed
  -- and how many records there are up to each of them
  pub rows : (k : ℕ) → k ≤ length share.ends.items → rows_of (take k share.ends.items) ≡ length (flat_map (records_of l) (take k (numbers_of share.ends.items)))
  pub room : count_by (is_unsettled_of subtask) l.transactions ≤ share.ends.promised
  pub pending : share.pending ≡ sum_by (pending_rows subtask) l.transactions
  pub total : length (committed_rows l subtask) + share.pending < 2 ^ 64
  -- the numbers of its transactions that are neither committed nor aborted
  pub unsettled : share.unsettled.keys ≡ map (λ e. e.0) (unsettled_of l subtask)

abbrev pub ledger_of : ℕ → List Transaction → List ℕ → Ledger
ledger_of subtasks transactions committed = record { subtasks = subtasks; transactions = transactions; committed = committed }

pub record IsKept (subtasks : ℕ) (transactions : List Transaction) (committed : WithRoom ℕ) (shares : List Share) : Type 0 where
  pub ordered : IsOrdered (ledger_of subtasks transactions committed.items)
  pub room : count_by is_unsettled transactions ≤ committed.promised
  pub share : (subtask : ℕ) → IsShare (ledger_of subtasks transactions committed.items) subtask (share_at shares subtask)

-- what each call does to a subtask's share

abbrev pub with_number : BTreeSet ℕ → ℕ → BTreeSet ℕ
with_number numbers n = record { keys = insert_key nat_cmp numbers.keys n }

abbrev pub without_number : BTreeSet ℕ → ℕ → BTreeSet ℕ
without_number numbers n = record { keys = remove_key (is_at (nat_cmp n)) numbers.keys }

abbrev pub with_place : Share → ℕ → Share
with_place share n = record share { ends = record share.ends { promised = share.ends.promised + 1 }; unsettled = with_number share.unsettled n }

abbrev pub with_row : Share → Share
with_row share = record share { pending = share.pending + 1 }

abbrev pub without : Share → ℕ → ℕ → Share
without share n rows =
    record {
      ends = record share.ends { promised = share.ends.promised - 1 };
      pending = share.pending - rows;
      unsettled = without_number share.unsettled n;
    }

abbrev pub with_end : Share → ℕ → ℕ → Share
with_end share n rows =
    record {
      ends = record { items = share.ends.items ++ record { transaction = n; rows = rows_of share.ends.items + rows } ∷ []; promised = share.ends.promised - 1 };
      pending = share.pending - rows;
      unsettled = without_number share.unsettled n;
    }

-- the transaction of a number, as it is told if it is neither committed nor aborted
abbrev pub unsettled_in : List Transaction → ℕ → Option (ℕ × Option ℕ)
unsettled_in transactions n = elim (transaction_in transactions n) [ None ↦ None | Some t ↦ unsettled_as n t.progress ]

-- The transaction of a number, which has come so far, stands at a place.
pub record Found (transactions : List Transaction) (n place : ℕ) (progress : Progress) : Type 0 where
  pub transaction : Transaction
  pub is : transaction_in transactions n ≡ Some transaction
  pub has_come : transaction.progress ≡ progress
  pub at : place + 1 ≡ n

-- The transaction of a number has a record at a place.
pub record HasRow (transactions : List Transaction) (n place : ℕ) : Type 0 where
  pub transaction : Transaction
  pub is : transaction_in transactions n ≡ Some transaction
  pub within : place < length transaction.records
