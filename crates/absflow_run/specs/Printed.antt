-- The committed records of a sink subtask, as lines.
use Rattle.std.specs.Prelude.{◌≡◌, ℕ, List, [], ◌∷◌, ◌++◌, MatchOption, slice_get}
use Rattle.operators.specs.RowSpelling.{RowIsSpelled, row_spelling}
use Rattle.operators.specs.declared.row.Row.{Row}
use Rattle.absflow_run.specs.RowText.{row_text}

-- the record is the spelling of a row, and the line is that row's text with its end
abbrev pub IsLineOf : List ℕ → List ℕ → Type 0
IsLineOf spelled line = (row : Row) × RowIsSpelled row × (spelled ≡ row_spelling row) × (line ≡ row_text row ++ 10 ∷ [])

-- the line of the record of this number; past the last record there is nothing
abbrev pub IsRecordLine : List (List ℕ) → ℕ → List ℕ → Type 0
IsRecordLine records number line = MatchOption (slice_get records number) (line ≡ []) (λ spelled. IsLineOf spelled line)
