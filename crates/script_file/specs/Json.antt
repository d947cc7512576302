-- A script's text as a JSON value, and the items of lists.
use Rattle.std.specs.Prelude.{ℕ, ◌&&◌, List, length, Bool, true, nat_lt, if◌then◌else◌, is_some, Result, Err}
use Rattle.serde_json.specs.Data.{Data, Items, no_items, item}
use Rattle.serde_json.specs.Find.{as_str, as_array}
use Rattle.json_members.specs.Json.{json_of}
use Rattle.script_file.specs.declared.fault.ScriptFault.{ScriptFault}
use Rattle.script_file.specs.declared.fault.ScriptFault.TheVariants.{TooLong, NotJson}
use Rattle.script_file.specs.Faults.{or_fault}

-- the value of a text of at most 16,777,216 bytes
unfoldable pub value_of : List ℕ → Result Data ScriptFault
value_of bytes = if nat_lt 16777216 (length bytes) then Err TooLong else or_fault NotJson (json_of bytes)

abbrev pub all_items : (Data → Bool) → Items → Bool
all_items test no_items = true
all_items test (item d ds) = test d && all_items test ds

abbrev pub are_arrays : Items → Bool
are_arrays = all_items (λ d. is_some (as_array d))

abbrev pub are_texts : Items → Bool
are_texts = all_items (λ d. is_some (as_str d))
