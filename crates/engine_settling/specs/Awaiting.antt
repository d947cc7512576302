-- What settling has left to do at an input of a task.
use Rattle.std.specs.Prelude.{◌≡◌, ◌≢◌, ◌+◌, ℕ, Bool, true, false, List, [], ◌∷◌, Option, Some, None, slice_get}
use Rattle.channels.specs.declared.item.Item.{Item}
use Rattle.channels.specs.declared.item.Item.TheVariants.{Record, Barrier}
use Rattle.claims.specs.Due.{WorksFrom}
use Rattle.dataflow_model.specs.Graph.{Channel}
use Rattle.job_graph.specs.Expanded.{Expanded, inputs_of, meets, is_marked}
use Rattle.job_state.specs.Held.{Held, copy_at, came_at}
use Rattle.job_state.specs.Sending.{items_at}
use Rattle.engine_settling.specs.Advancing.{IsPending}

-- how many records stand before the first barrier
abbrev pub leading : {R : Type 0} → List (Item R) → ℕ
leading [] = 0
leading (Record r ∷ rest) = 1 + leading rest
leading (Barrier n ∷ rest) = 0

-- so in a channel of a running job
abbrev pub leading_in : {R K S : Type 0} → Option (Held R K S) → ℕ → ℕ
leading_in None number = 0
leading_in (Some h) number = leading (items_at h.channels number)

module _ {R K S : Type 0} (graph : Expanded) (h : Held R K S) (task input : ℕ) where
  -- the pending checkpoint's barrier was sent on this channel, which is the task's input, and was not yet taken
  pub record IsAwaited (number : ℕ) : Type 0 where
    pub works : WorksFrom graph task input number
    pub pending : IsPending h
    pub sent : (channel : Channel) → slice_get graph.channels number ≡ Some channel → copy_at h channel.sender ≢ None
    pub missing : came_at h number ≡ false

  -- the barrier was taken from the task's input, if it is marked so
  abbrev pub HasCome : Bool → Type 0
  HasCome marked = (number : ℕ) → slice_get (inputs_of graph task) input ≡ Some number → meets is_marked graph.channels number ≡ marked → came_at h number ≡ true
