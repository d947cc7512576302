-- The members of a script.
use Rattle.std.specs.Prelude.{ℕ, List, [], ◌∷◌, Result, Ok, Err, if◌then◌else◌, codes}
use Rattle.serde_json.specs.Data.{Data, Items}
use Rattle.serde_json.specs.Find.{get, as_array}
use Rattle.serde_json.specs.View.{view, items_view}
use Rattle.script_file.specs.declared.fault.ScriptFault.{ScriptFault}
use Rattle.script_file.specs.declared.fault.ScriptFault.TheVariants.{BadField}
use Rattle.script_file.specs.declared.outline.Outline as code
use Rattle.script_file.specs.Faults.{◌>>=◌, or_fault}
use Rattle.json_members.specs.Members.{has_only}
use Rattle.script_file.specs.Json.{are_arrays, are_texts}

-- the members, as JSON values
pub record Outline : Type 0 where
  pub job : Data
  pub partitions : Items
  pub steps : Items

abbrev pub outline_view : code.Outline → Outline
outline_view p = record { job = view p.job.now; partitions = items_view p.partitions.now; steps = items_view p.steps.now }

abbrev pub member_at : List ℕ → Data → Result Data ScriptFault
member_at name d = or_fault BadField (get name d)

abbrev pub list_at : List ℕ → Data → Result Items ScriptFault
list_at name d = do
  found ← member_at name d
  or_fault BadField (as_array found)

abbrev pub lists_at : List ℕ → Data → Result Items ScriptFault
lists_at name d = do
  items ← list_at name d
  if are_arrays items then Ok items else Err BadField

abbrev pub texts_at : List ℕ → Data → Result Items ScriptFault
texts_at name d = do
  items ← list_at name d
  if are_texts items then Ok items else Err BadField

-- an object of exactly a job, a list of lists and a list of texts
unfoldable pub outline_at : Data → Result Outline ScriptFault
outline_at d = do
  job ← member_at (codes "job") d
  partitions ← lists_at (codes "partitions") d
  steps ← texts_at (codes "steps") d
  if has_only (codes "job" ∷ codes "partitions" ∷ codes "steps" ∷ []) d then Ok (record { job = job; partitions = partitions; steps = steps }) else Err BadField
