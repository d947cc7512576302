-- What each kind of task stands for.
use Rattle.std.specs.Prelude.{ℕ, List, [], Option, option_map}
use Rattle.task_part.specs.declared.part.Part.{Part}
use Rattle.task_part.specs.declared.part.Part.TheVariants as part
use Rattle.job_state.specs.Standing.{Standing}
use Rattle.job_state.specs.declared.holding.Holding.TheVariants as holds
use Rattle.job_state.specs.declared.task.Kind.{Kind}
use Rattle.job_state.specs.declared.task.Kind.TheVariants.{Source, Operator, Sink}

module _ {R K S : Type 0} where
  -- an operator's copy, by its entries
  abbrev pub map_copy : Option (List (K × S)) → Option (Part R K S)
  map_copy copy = option_map (λ entries. part.Operator entries []) copy

  abbrev pub standing_of : Kind R K S → List ℕ → Standing R K S
  standing_of (Source offset copy) bytes = record { holding = holds.Source offset; copy = copy; part = bytes }
  standing_of (Operator states) bytes = record { holding = holds.Operator states.entries; copy = map_copy states.copy; part = states.part }
  standing_of (Sink sink copy) bytes = record { holding = holds.Sink sink; copy = copy; part = bytes }
