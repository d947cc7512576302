-- Runs of channels that take the lanes in turn, among the channels of a port.
use Rattle.std.specs.Prelude.{◌≡◌, ◌<◌, ◌≤◌, ◌+◌, ◌⊎◌, ℕ, List, Some, length, slice_get, slice_index, option_map}
use Rattle.dataflow_model.specs.Graph as model

-- The channel at a place of the list takes the lanes that fall to this subtask.
abbrev pub TakesSubtask : List model.Channel → List ℕ → (place parallelism subtask : ℕ) → Type 0
TakesSubtask channels numbers place parallelism subtask =
    (place < length numbers) × (option_map (λ c. c.route) (slice_get channels (slice_index numbers place)) ≡ Some (model.Lanes parallelism subtask))

-- So many channels of the list, from a place on, take the lanes in turn. One alone may take any.
pub record IsRun (channels : List model.Channel) (numbers : List ℕ) (place run : ℕ) : Type 0 where
  pub some : 0 < run
  pub within : place + run ≤ length numbers
  pub each : (run ≡ 1) ⊎ ((subtask : ℕ) → subtask < run → TakesSubtask channels numbers (place + subtask) run subtask)

-- The run that begins at each place.
pub record AreRuns (channels : List model.Channel) (numbers runs : List ℕ) : Type 0 where
  pub len : length runs ≡ length numbers
  pub each : (place : ℕ) → place < length numbers → IsRun channels numbers place (slice_index runs place)
