-- The rows of the partitions.
use Rattle.std.specs.Prelude.{ℕ, ℤ, List, [], ◌∷◌, length, nat_lt, not, Option, Some, None, Result, Ok, Err, if◌then◌else◌, codes}
use Rattle.serde_json.specs.Data.{Data, Items}
use Rattle.serde_json.specs.Find.{as_array}
use Rattle.script_file.specs.declared.fault.ItemFault.{ItemFault}
use Rattle.script_file.specs.declared.fault.ItemFault.TheVariants as one
use Rattle.script_file.specs.declared.fault.ScriptFault.{ScriptFault}
use Rattle.script_file.specs.declared.fault.ScriptFault.TheVariants as whole
use Rattle.operators.specs.declared.row.Row.{Row}
use Rattle.script_file.specs.Faults.{◌>>=◌, or_fault}
use Rattle.json_members.specs.Members.{has_only, text_at, whole_at}
use Rattle.script_file.specs.Lists.{each_after}

-- the row of a key that is short enough
abbrev pub row_with : List ℕ → ℤ → Result Row ItemFault
row_with key value = if nat_lt 1024 (length key) then Err one.Bad else Ok (record { k = key; v = value })

-- an object of exactly a key of at most 1,024 bytes and a whole number
unfoldable pub row_of : Data → Result Row ItemFault
row_of d = do
  key ← or_fault one.Bad (text_at (codes "k") d)
  value ← or_fault one.Bad (whole_at (codes "v") d)
  if not (has_only (codes "k" ∷ codes "v" ∷ []) d) then Err one.Bad else row_with key value

-- the row of this number in its partition
abbrev pub of_place : ℕ → ℕ → Result Row ItemFault → Result Row ScriptFault
of_place partition number (Ok row) = Ok row
of_place partition number (Err one.Bad) = Err (whole.BadRow partition number)
of_place partition number (Err one.Memory) = Err whole.Memory

abbrev pub row_at : ℕ → ℕ → Data → Result Row ScriptFault
row_at partition number d = of_place partition number (row_of d)

-- the rows of the partition of this number
abbrev pub rows_of : ℕ → Option Items → Result (List Row) ScriptFault
rows_of partition None = Err whole.BadField
rows_of partition (Some items) = each_after (row_at partition) [] items

abbrev pub rows_at : ℕ → Data → Result (List Row) ScriptFault
rows_at partition d = rows_of partition (as_array d)
