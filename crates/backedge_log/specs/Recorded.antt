-- What the logs hold.
use Rattle.std.specs.Prelude.{◌≡◌, ◌-◌, ℕ, List, [], Bool, true, false, All, length, take, slice_index_or}

-- the log of one channel
pub record Recorded (R : Type 0) : Type 0 where
  -- what was taken from the channel since the log was opened, the newest last
  pub records : List R
  -- the pending checkpoint's barrier has not come from the channel
  pub is_open : Bool
  -- how many records more it takes without memory
  pub room : ℕ

-- the log of this channel
abbrev pub log_at : {R : Type 0} → List (Recorded R) → ℕ → Recorded R
log_at logs channel = slice_index_or logs channel (record { records = []; is_open = false; room = 0 })

-- an empty log that is not open
pub record IsClosed {R : Type 0} (log : Recorded R) : Type 0 where
  pub empty : log.records ≡ []
  pub closed : log.is_open ≡ false

abbrev pub AllClosed : {R : Type 0} → List (Recorded R) → Type 0
AllClosed logs = All IsClosed logs

-- an empty log that is open
pub record IsFresh {R : Type 0} (log : Recorded R) : Type 0 where
  pub empty : log.records ≡ []
  pub opened : log.is_open ≡ true

abbrev pub AllFresh : {R : Type 0} → List (Recorded R) → Type 0
AllFresh logs = All IsFresh logs

-- all records but the newest
abbrev pub without_last : {R : Type 0} → List R → List R
without_last records = take (length records - 1) records
