-- A row as JSON.
use Rattle.std.specs.Prelude.{ℕ, List, codes}
use Rattle.serde_json.specs.Data.{Data, number, string, object, no_members, member}
use Rattle.serde_json.specs.Find.{of_integer}
use Rattle.serde_json.specs.Written.{compact_text}
use Rattle.operators.specs.declared.row.Row.{Row}

-- an object of the key and the value
abbrev pub row_data : Row → Data
row_data row = object (member (codes "k") (string row.k) (member (codes "v") (number (of_integer row.v)) no_members))

-- with no space in it
abbrev pub row_text : Row → List ℕ
row_text row = compact_text (row_data row)
