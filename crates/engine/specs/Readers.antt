-- What is asked of a job.
use Rattle.std.specs.Prelude.{◌≡◌, ℕ, Bool, false, Option, Some, None, slice_get}
use Rattle.channels.specs.declared.item.Item.TheVariants.{Record}
use Rattle.job_state.specs.Held.{Held, came_at}
use Rattle.job_state.specs.Sending.{items_at}

module _ {R K S : Type 0} where
  -- a record stands first in the channel
  abbrev pub HasHead : Held R K S → ℕ → Type 0
  HasHead h channel = (row : R) × (slice_get (items_at h.channels channel) 0 ≡ Some (Record row))

  -- the number of the checkpoint that is pending, if the job runs
  abbrev pub pending_in : Option (Held R K S) → Option ℕ
  pending_in None = None
  pending_in (Some h) = h.coordination.pending

  -- whether the pending checkpoint's barrier was taken from the channel, if the job runs
  abbrev pub came_in : Option (Held R K S) → ℕ → Bool
  came_in None channel = false
  came_in (Some h) channel = came_at h channel
