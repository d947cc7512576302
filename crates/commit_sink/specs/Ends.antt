-- Committed transactions, each with how many records there are up to its last.
use Rattle.std.specs.Prelude.{◌≡◌, ◌<◌, ◌+◌, ◌-◌, ℕ, List, length, take, slice_get, Some, None}
use Rattle.commit_sink.specs.declared.share.End.{End}

-- how many there are up to the last
abbrev pub rows_of : List End → ℕ
rows_of ends = elim (slice_get ends (length ends - 1)) [ None ↦ 0 | Some e ↦ e.rows ]

-- The record of an index is the one at a place of the k-th.
pub record Stands (ends : List End) (k index : ℕ) (found : ℕ × ℕ) : Type 0 where
  pub end : End
  pub is : slice_get ends k ≡ Some end
  pub transaction : end.transaction ≡ found.0
  pub above : index < end.rows
  pub place : rows_of (take k ends) + found.1 ≡ index
