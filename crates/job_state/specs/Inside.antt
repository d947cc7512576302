-- What the tasks, gates and logs inside an attempt stand for.
use Rattle.std.specs.Prelude.{ℕ, Bool, List, [], Option, not, map, slice_get, unwrap_or}
use Rattle.std.specs.Option.{option_map_or}
use Rattle.alignment.specs.Table.{Alignment}
use Rattle.alignment.specs.declared.input.Phase.TheVariants.{AtRest}
use Rattle.backedge_log.specs.Recorded.{Recorded}
use Rattle.task_part.specs.declared.part.Part.{Part}
use Rattle.job_state.specs.Standing.{Standing}
use Rattle.job_state.specs.declared.holding.Holding.{Holding}

-- a task's gate
abbrev pub gate_in : List Alignment → ℕ → Alignment
gate_in gates task = unwrap_or (slice_get gates task) (record { phase = AtRest; inputs = [] })

module _ {R : Type 0} where
  -- of each channel, whether the pending checkpoint's barrier was taken from it
  abbrev pub came_of : List (Recorded R) → List Bool
  came_of logs = map (λ log. not log.is_open) logs

  -- of each channel, the records that are logged
  abbrev pub records_of : List (Recorded R) → List (List R)
  records_of logs = map (λ log. log.records) logs

  -- what was logged for the channel
  abbrev pub logged_in : List (Recorded R) → ℕ → List R
  logged_in logs channel = unwrap_or (slice_get (records_of logs) channel) []

module _ {R K S : Type 0} where
  -- what each task holds
  abbrev pub holdings_of : List (Standing R K S) → List (Holding K S)
  holdings_of tasks = map (λ t. t.holding) tasks

  -- each task's copy
  abbrev pub copies_of : List (Standing R K S) → List (Option (Part R K S))
  copies_of tasks = map (λ t. t.copy) tasks

  -- a task's part, as far as it is spelled
  abbrev pub part_in : List (Standing R K S) → ℕ → List ℕ
  part_in tasks task = option_map_or (λ t. t.part) (slice_get tasks task) []
