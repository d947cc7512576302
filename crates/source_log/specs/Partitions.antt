-- Partitions, as the list of the records of each.
use Rattle.std.specs.Prelude.{◌≡◌, ◌⊎◌, ◌<◌, ◌≤◌, ◌+◌, ◌-◌, ◌^◌, ℕ, nat_lt, if◌then◌else◌, List, [], ◌∷◌, ◌++◌, length, Option, Some, None, Result, Ok, Err, slice_get, slice_set, unwrap_or}
use Rattle.source_log.specs.declared.partitions.SourceFault.{SourceFault}
use Rattle.source_log.specs.declared.partitions.SourceFault.TheVariants.{NoSuchPartition, Fault, Full, Memory}

-- the records of a partition, none where there is no such partition
abbrev pub records_at : {R : Type 0} → List (List R) → ℕ → List R
records_at partitions p = unwrap_or (slice_get partitions p) []

-- every record is such
abbrev pub AllFit : {R : Type 0} → (R → Type 0) → List (List R) → Type 0
AllFit {R = R} RecordFits partitions = (p offset : ℕ) (row : R) → slice_get (records_at partitions p) offset ≡ Some row → RecordFits row

-- The calls, each by why it is refused and what it leaves at Ok.

abbrev pub partition_refusal : {R : Type 0} → List (List R) → ℕ → Option SourceFault
partition_refusal partitions p = if nat_lt p (length partitions) then None else Some NoSuchPartition

abbrev pub append_refusal : {R : Type 0} → List (List R) → ℕ → Option SourceFault
append_refusal partitions p =
    if nat_lt p (length partitions) then (if nat_lt (length (records_at partitions p)) (2 ^ 32 - 1) then None else Some Full) else Some NoSuchPartition

abbrev pub appended : {R : Type 0} → List (List R) → ℕ → R → List (List R)
appended partitions p row = slice_set partitions p (records_at partitions p ++ row ∷ [])

-- where so many records are put last
abbrev pub append_all_refusal : {R : Type 0} → List (List R) → ℕ → ℕ → Option SourceFault
append_all_refusal partitions p count =
    if nat_lt p (length partitions) then (if nat_lt (length (records_at partitions p) + count) (2 ^ 32) then None else Some Full) else Some NoSuchPartition

abbrev pub appended_all : {R : Type 0} → List (List R) → ℕ → List R → List (List R)
appended_all partitions p rows = slice_set partitions p (records_at partitions p ++ rows)

-- where the partitions of another log are put behind these
abbrev pub join_refusal : {R : Type 0} → List (List R) → List (List R) → Option SourceFault
join_refusal partitions more = if nat_lt (length partitions + length more) (2 ^ 32) then None else Some Full

-- How a call ends, of which `refusal` says why it is refused and `after` what it leaves at Ok.
-- A fault is counted, and leaves what was there or what Ok leaves. Every other refusal changes nothing.
abbrev pub Ends : {R T : Type 0} → List (List R) × ℕ → List (List R) × ℕ → Option SourceFault → List (List R) → Result T SourceFault → Type 0
Ends old new refusal after (Ok v) = (refusal ≡ None) × (new.0 ≡ after) × (old.1 ≤ new.1)
Ends old new refusal after (Err Fault) = ((new.0 ≡ old.0) ⊎ ((refusal ≡ None) × (new.0 ≡ after))) × (old.1 < new.1)
Ends old new refusal after (Err Memory) = (refusal ≡ None) × (new.0 ≡ old.0) × (old.1 ≤ new.1)
Ends old new refusal after (Err NoSuchPartition) = (refusal ≡ Some NoSuchPartition) × (new.0 ≡ old.0) × (old.1 ≤ new.1)
Ends old new refusal after (Err Full) = (refusal ≡ Some Full) × (new.0 ≡ old.0) × (old.1 ≤ new.1)
