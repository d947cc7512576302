-- A committed record as a line.
use Rattle.std.specs.Prelude.{◌≡◌, ℕ, ℤ, List, [], ◌∷◌, ◌++◌, ◌==◌, ◌&&◌, Bool, true, not, nat_le, nat_lt, codes}
use Rattle.std.specs.Fmt.{signed_decimal}
use Rattle.std.specs.List.{list_all}
use Rattle.operators.specs.declared.row.Row.{Row}
use Rattle.operators.specs.RowSpelling.{RowIsSpelled, row_spelling}
use Rattle.absflow_run.specs.RowText.{row_text}

-- the record spells a row, whose line is put last in the text
pub record PrintsRecord (bytes old new : List ℕ) : Type 0 where
  pub row : Row
  pub spelled : RowIsSpelled row
  pub text : bytes ≡ row_spelling row
  pub line : new ≡ old ++ (row_text row ++ 10 ∷ [])

-- a character of ASCII that means itself in a JSON string
abbrev pub is_plain : ℕ → Bool
is_plain byte = nat_le 32 byte && nat_lt byte 127 && not (byte == 34) && not (byte == 92)

abbrev pub are_plain : List ℕ → Bool
are_plain = list_all is_plain

-- the record spells the row of this key and this value, and the key needs no escapes
pub record IsPlainRecord (bytes key : List ℕ) (v : ℤ) : Type 0 where
  pub spelled : RowIsSpelled (record { k = key; v = v })
  pub text : bytes ≡ row_spelling (record { k = key; v = v })
  pub plain : are_plain key ≡ true

-- the line of a row whose key needs no escapes
abbrev pub plain_line : List ℕ → ℤ → List ℕ
plain_line key v = codes "{\"k\":\"" ++ (key ++ (codes "\",\"v\":" ++ (signed_decimal v ++ codes "}\n")))
