-- The rows and the steps of a script.
use Rattle.std.specs.Prelude.{ℕ, ◌==◌, List, [], map, Result, Ok, Err, if◌then◌else◌, not}
use Rattle.serde_json.specs.Data.{Items}
use Rattle.serde_json.specs.Events.{items_len}
use Rattle.operators.specs.declared.row.Row.{Row}
use Rattle.script_file.specs.declared.contents.Contents as code
use Rattle.script_file.specs.declared.fault.ScriptFault.{ScriptFault}
use Rattle.script_file.specs.declared.fault.ScriptFault.TheVariants.{Inputs}
use Rattle.script_file.specs.declared.step.ScriptStep.{ScriptStep}
use Rattle.script_file.specs.Faults.{◌>>=◌}
use Rattle.script_file.specs.Lists.{each_after}
use Rattle.script_file.specs.Outline.{Outline}
use Rattle.script_file.specs.Rows.{rows_at}
use Rattle.script_file.specs.Steps.{step_at}

pub record Contents : Type 0 where
  pub partitions : List (List Row)
  pub steps : List ScriptStep

abbrev pub contents_view : code.Contents → Contents
contents_view c = record { partitions = map (λ rows. rows.items) c.partitions.items; steps = c.steps.items }

-- a partition for each source task
abbrev pub counted : ℕ → Items → Result Items ScriptFault
counted sources items = if not (items_len items == sources) then Err (Inputs sources (items_len items)) else Ok items

-- what a script for so many source tasks holds, or its first fault
unfoldable pub contents_at : ℕ → Outline → Result Contents ScriptFault
contents_at sources outline = do
  items ← counted sources outline.partitions
  partitions ← each_after rows_at [] items
  steps ← each_after step_at [] outline.steps
  Ok (record { partitions = partitions; steps = steps })
