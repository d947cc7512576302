-- The rows of lines.
use Rattle.std.specs.Prelude.{◌≡◌, ℕ, zero, suc, ◌==◌, ◌||◌, ◌<◌, length, List, [], ◌++◌, Bool, true, false, Option, None, Some, IfSome, Result, Ok, ⊤}
use Rattle.std.specs.List.{list_all}
use Rattle.std.specs.Io.{IsEmptyOrEndsWith}
use Rattle.std.specs.Io.BufRead.{take_through, drop_through}
use Rattle.abs_codec.specs.Spelling.{Fits}
use Rattle.operators.specs.RowSpelling.{RowIsSpelled, row_spelling}
use Rattle.operators.specs.declared.row.Row.{Row}
use Rattle.script_file.specs.declared.fault.ItemFault.{ItemFault}
use Rattle.script_file.specs.declared.fault.ItemFault.TheVariants.{Bad}
use Rattle.script_file.specs.Faults.{◌>>=◌, or_fault}
use Rattle.json_members.specs.Json.{json_of}
use Rattle.script_file.specs.Rows.{row_of}
use Rattle.source_log.specs.Partitions.{appended, appended_all}

-- a space, a tab, or a part of a line's end
abbrev pub is_space : ℕ → Bool
is_space byte = (byte == 32) || (byte == 9) || (byte == 13) || (byte == 10)

abbrev pub is_blank : List ℕ → Bool
is_blank = list_all is_space

-- the row of the line's JSON
unfoldable pub row_of_line : List ℕ → Result Row ItemFault
row_of_line line = or_fault Bad (json_of line) >>= row_of

-- A blank line leaves the partitions as they are; of any other the row is put last.
abbrev pub PutsLine : ℕ → List ℕ → List (List Row) → List (List Row) → Type 0
PutsLine partition line old new =
    (is_blank line ≡ true → new ≡ old)
    × (is_blank line ≡ false → (row : Row) × (row_of_line line ≡ Ok row) × (new ≡ appended old partition row))

-- The rows of so many lines are put last in turn, and then the text is at its end.
abbrev pub PutsLines : ℕ → ℕ → List ℕ → List (List Row) → List (List Row) → Type 0
PutsLines zero partition bytes old new = (bytes ≡ []) × (new ≡ old)
PutsLines (suc n) partition bytes old new = (mid : List (List Row)) × PutsLine partition (take_through 10 bytes) old mid × PutsLines n partition (drop_through 10 bytes) mid new

-- the rows of the text's lines are put last in this partition
abbrev pub PutsText : ℕ → List ℕ → List (List Row) → List (List Row) → Type 0
PutsText partition bytes old new = (n : ℕ) × PutsLines n partition bytes old new

-- Rows are put last in this partition, and the others stay as they are.
abbrev pub PutsRows : ℕ → List (List Row) → List (List Row) → Type 0
PutsRows partition old new = (rows : List Row) × (new ≡ appended_all old partition rows)

-- A blank line has no row, and any other has that of its JSON, which fits.
abbrev pub HasRow : List ℕ → Option Row → Type 0
HasRow line row =
    (is_blank line ≡ true → row ≡ None)
    × (is_blank line ≡ false → (r : Row) × (row_of_line line ≡ Ok r) × (row ≡ Some r))
    × IfSome row (Fits RowIsSpelled row_spelling)

-- Known bytes lose a text at their front, whose rows are put last in this partition. What is behind it begins with a line.
abbrev pub PutsFront : ℕ → Option (List ℕ) → Option (List ℕ) → List (List Row) → List (List Row) → Type 0
PutsFront partition None rest old new = ⊤
PutsFront partition (Some xs) None old new = ⊥
PutsFront partition (Some xs) (Some ys) old new =
    (text : List ℕ) × (xs ≡ text ++ ys) × PutsText partition text old new × (0 < length ys → IsEmptyOrEndsWith text 10)
