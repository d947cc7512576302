-- The items of a JSON list, read one after another.
use Rattle.std.specs.Prelude.{ℕ, List, [], ◌∷◌, ◌++◌, length, Result, Ok}
use Rattle.serde_json.specs.Data.{Data, Items, no_items, item}
use Rattle.script_file.specs.declared.fault.ScriptFault.{ScriptFault}
use Rattle.script_file.specs.Faults.{◌>>=◌}

-- what each item gives by its number, behind those that were found before them
unfoldable pub each_after : {A : Type 0} → (ℕ → Data → Result A ScriptFault) → List A → Items → Result (List A) ScriptFault
each_after read found no_items = Ok found
each_after read found (item d ds) = do
  x ← read (length found) d
  each_after read (found ++ x ∷ []) ds
