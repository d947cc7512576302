-- Transactions of records, and which of them are committed, in what order.
use Rattle.std.specs.Prelude.{◌≡◌, ◌⊎◌, ◌<◌, ◌≤◌, ◌-◌, ◌^◌, ◌==◌, ℕ, List, [], ◌∷◌, ◌++◌, length, filter, count_by, Bool, true, false, if◌then◌else◌, Option, Some, None, Result, Ok, Err, slice_get, slice_set}
use Rattle.std.specs.List.{flat_map, filter_map, enumerate_from}
use Rattle.commit_sink.specs.declared.transactions.Progress.{Progress}
use Rattle.commit_sink.specs.declared.transactions.Progress.TheVariants.{Open, PreCommitted, Committed, Aborted}
use Rattle.commit_sink.specs.declared.transactions.TransactionFault.{TransactionFault}
use Rattle.commit_sink.specs.declared.transactions.TransactionFault.TheVariants.{Fault, NotPreCommitted, NotOpen, AlreadyCommitted, NoSuchTransaction, Memory}

pub record Transaction : Type 0 where
  pub subtask : ℕ
  pub progress : Progress
  -- each as its bytes
  pub records : List (List ℕ)

pub record Ledger : Type 0 where
  pub subtasks : ℕ
  -- by their numbers, from 1
  pub transactions : List Transaction
  -- the numbers of the committed ones, in the order of commit
  pub committed : List ℕ

-- a ledger with no transaction
abbrev pub blank : ℕ → Ledger
blank subtasks = record { subtasks = subtasks; transactions = []; committed = [] }

-- the transaction of a number
abbrev pub transaction_in : List Transaction → ℕ → Option Transaction
transaction_in transactions n = if n == 0 then None else slice_get transactions (n - 1)

abbrev pub transaction_at : Ledger → ℕ → Option Transaction
transaction_at l n = transaction_in l.transactions n

abbrev pub records_of : Ledger → ℕ → List (List ℕ)
records_of l n = elim (transaction_at l n) [ None ↦ [] | Some t ↦ t.records ]

abbrev pub is_of : Ledger → ℕ → ℕ → Bool
is_of l subtask n = elim (transaction_at l n) [ None ↦ false | Some t ↦ t.subtask == subtask ]

-- the joined records of the committed transactions of a subtask, in the order of commit
abbrev pub committed_rows : Ledger → ℕ → List (List ℕ)
committed_rows l subtask = flat_map (records_of l) (filter (is_of l subtask) l.committed)

-- the number of a transaction that is neither committed nor aborted, with its checkpoint if it is pre-committed
abbrev pub unsettled_as : ℕ → Progress → Option (ℕ × Option ℕ)
unsettled_as n Open = Some (n, None)
unsettled_as n (PreCommitted checkpoint) = Some (n, Some checkpoint)
unsettled_as n Committed = None
unsettled_as n Aborted = None

abbrev pub unsettled_one : ℕ → ℕ × Transaction → Option (ℕ × Option ℕ)
unsettled_one subtask e = if e.1.subtask == subtask then unsettled_as e.0 e.1.progress else None

-- those of a subtask, in rising number
abbrev pub unsettled_of : Ledger → ℕ → List (ℕ × Option ℕ)
unsettled_of l subtask = filter_map (unsettled_one subtask) (enumerate_from 1 l.transactions)

-- The calls, each by why it is refused and what it leaves at Ok.

-- why a call on a transaction is refused, of which `judge` says why how far it has come refuses it
abbrev pub refusal : (Progress → Option TransactionFault) → Option Transaction → Option TransactionFault
refusal judge None = Some NoSuchTransaction
refusal judge (Some t) = judge t.progress

abbrev pub with_transaction : Ledger → ℕ → Transaction → Ledger
with_transaction l n t = record l { transactions = slice_set l.transactions (n - 1) t }

abbrev pub changed : Ledger → ℕ → (Transaction → Transaction) → Ledger
changed l n change = elim (transaction_at l n) [ None ↦ l | Some t ↦ with_transaction l n (change t) ]

abbrev pub begun : Ledger → ℕ → Ledger
begun l subtask = record l { transactions = l.transactions ++ record { subtask = subtask; progress = Open; records = [] } ∷ [] }

abbrev pub if_open : Progress → Option TransactionFault
if_open Open = None
if_open (PreCommitted n) = Some NotOpen
if_open Committed = Some NotOpen
if_open Aborted = Some NotOpen

abbrev pub open_refusal : Ledger → ℕ → Option TransactionFault
open_refusal l n = refusal if_open (transaction_at l n)

abbrev pub appended : Ledger → ℕ → List ℕ → Ledger
appended l n bytes = changed l n (λ t. record t { records = t.records ++ bytes ∷ [] })

abbrev pub pre_committed : Ledger → ℕ → ℕ → Ledger
pre_committed l n checkpoint = changed l n (λ t. record t { progress = PreCommitted checkpoint })

abbrev pub if_pre_committed : Progress → Option TransactionFault
if_pre_committed Open = Some NotPreCommitted
if_pre_committed (PreCommitted n) = None
if_pre_committed Committed = None
if_pre_committed Aborted = Some NotPreCommitted

abbrev pub commit_refusal : Ledger → ℕ → Option TransactionFault
commit_refusal l n = refusal if_pre_committed (transaction_at l n)

abbrev pub commits : Ledger → ℕ → Transaction → Progress → Ledger
commits l n t Open = l
commits l n t (PreCommitted checkpoint) = record (with_transaction l n (record t { progress = Committed })) { committed = l.committed ++ n ∷ [] }
commits l n t Committed = l
commits l n t Aborted = l

-- what is pre-committed is committed, and comes last in the order of commit; a second commit changes nothing
abbrev pub after_commit : Ledger → ℕ → Ledger
after_commit l n = elim (transaction_at l n) [ None ↦ l | Some t ↦ commits l n t t.progress ]

abbrev pub if_not_committed : Progress → Option TransactionFault
if_not_committed Open = None
if_not_committed (PreCommitted n) = None
if_not_committed Committed = Some AlreadyCommitted
if_not_committed Aborted = None

abbrev pub abort_refusal : Ledger → ℕ → Option TransactionFault
abort_refusal l n = refusal if_not_committed (transaction_at l n)

-- an aborted transaction has no records
abbrev pub aborted : Ledger → ℕ → Ledger
aborted l n = changed l n (λ t. record t { progress = Aborted; records = [] })

-- What every ledger keeps.

abbrev pub has_committed : Progress → Bool
has_committed Open = false
has_committed (PreCommitted n) = false
has_committed Committed = true
has_committed Aborted = false

abbrev pub is_committed : Ledger → ℕ → Bool
is_committed l n = elim (transaction_at l n) [ None ↦ false | Some t ↦ has_committed t.progress ]

pub record IsOrdered (l : Ledger) : Type 0 where
  -- the order of commit has each committed transaction once, and nothing else
  pub once : (n : ℕ) → count_by (λ m. m == n) l.committed ≡ (if is_committed l n then 1 else 0)
  pub subtask : (n : ℕ) (t : Transaction) → slice_get l.transactions n ≡ Some t → t.subtask < l.subtasks
  pub emptied : (n : ℕ) (t : Transaction) → slice_get l.transactions n ≡ Some t → t.progress ≡ Aborted → t.records ≡ []
  pub numbers : length l.transactions < 2 ^ 64

-- How a call ends, of which `refusal` says why it is refused and `after` what it leaves at Ok.
-- A fault is counted, and leaves what was there or what Ok leaves. Every other refusal changes nothing.
abbrev pub Ends : {T : Type 0} → Ledger × ℕ → Ledger × ℕ → Option TransactionFault → Ledger → Result T TransactionFault → Type 0
Ends old new refusal after (Ok v) = (refusal ≡ None) × (new.0 ≡ after) × (old.1 ≤ new.1)
Ends old new refusal after (Err Fault) = ((new.0 ≡ old.0) ⊎ ((refusal ≡ None) × (new.0 ≡ after))) × (old.1 < new.1)
Ends old new refusal after (Err Memory) = (refusal ≡ None) × (new.0 ≡ old.0) × (old.1 ≤ new.1)
Ends old new refusal after (Err NotPreCommitted) = (refusal ≡ Some NotPreCommitted) × (new.0 ≡ old.0) × (old.1 ≤ new.1)
Ends old new refusal after (Err NotOpen) = (refusal ≡ Some NotOpen) × (new.0 ≡ old.0) × (old.1 ≤ new.1)
Ends old new refusal after (Err AlreadyCommitted) = (refusal ≡ Some AlreadyCommitted) × (new.0 ≡ old.0) × (old.1 ≤ new.1)
Ends old new refusal after (Err NoSuchTransaction) = (refusal ≡ Some NoSuchTransaction) × (new.0 ≡ old.0) × (old.1 ≤ new.1)
