-- How far the pending checkpoint is, and that it only goes on.
use Rattle.std.specs.Prelude.{◌≡◌, ◌≢◌, ◌<◌, ℕ, Bool, true, Some, None, length, slice_get}
use Rattle.coordinator.specs.Coordinator.{has_acked}
use Rattle.dataflow_model.specs.Graph.{Channel}
use Rattle.job_graph.specs.Expanded.{Expanded}
use Rattle.job_graph.specs.declared.role.Role.TheVariants as role
use Rattle.job_state.specs.Held.{Held, copy_at, came_at}

module _ {R K S : Type 0} where
  -- The checkpoint that is pending stays, and no copy, no barrier that was taken and no acknowledgement is lost.
  pub record Advances (h k : Held R K S) : Type 0 where
    pub pending : k.coordination.pending ≡ h.coordination.pending
    pub copied : (task : ℕ) → copy_at h task ≢ None → copy_at k task ≢ None
    pub came : (number : ℕ) → came_at h number ≡ true → came_at k number ≡ true
    pub acked : (task : ℕ) → has_acked h.coordination task ≡ true → has_acked k.coordination task ≡ true

  abbrev pub IsPending : Held R K S → Type 0
  IsPending h = h.coordination.pending ≢ None

module _ {R K S : Type 0} (graph : Expanded) (h : Held R K S) where
  -- each source has copied
  abbrev pub HaveSourcesCopied : Type 0
  HaveSourcesCopied = (task partition : ℕ) → slice_get graph.tasks task ≡ Some (role.Source partition) → copy_at h task ≢ None

  -- each task that stands before this place in the order has
  abbrev pub HaveCopiedBefore : ℕ → Type 0
  HaveCopiedBefore place = (before task : ℕ) → before < place → slice_get graph.order before ≡ Some task → copy_at h task ≢ None

  -- each task has
  abbrev pub HaveCopied : Type 0
  HaveCopied = (task : ℕ) → task < length graph.tasks → copy_at h task ≢ None

  -- so has the sender of each input of the task that is marked so,
  abbrev pub HaveSendersCopied : (marked : Bool) (task : ℕ) → Type 0
  HaveSendersCopied marked task = (number : ℕ) (channel : Channel) → slice_get graph.channels number ≡ Some channel → channel.receiver ≡ task → channel.marked ≡ marked → copy_at h channel.sender ≢ None

  -- and the barrier was taken from it
  abbrev pub HaveCome : (marked : Bool) (task : ℕ) → Type 0
  HaveCome marked task = (number : ℕ) (channel : Channel) → slice_get graph.channels number ≡ Some channel → channel.receiver ≡ task → channel.marked ≡ marked → came_at h number ≡ true

  -- each task that stands before this place in the order has taken the barriers of its marked inputs
  abbrev pub HaveComeBefore : ℕ → Type 0
  HaveComeBefore place = (before task : ℕ) → before < place → slice_get graph.order before ≡ Some task → HaveCome true task

  -- the barrier was taken from each channel
  abbrev pub HaveAllCome : Type 0
  HaveAllCome = (number : ℕ) (channel : Channel) → slice_get graph.channels number ≡ Some channel → came_at h number ≡ true

  -- so many tasks, or each, have acknowledged
  abbrev pub HaveAckedBefore : ℕ → Type 0
  HaveAckedBefore tasks = (task : ℕ) → task < tasks → has_acked h.coordination task ≡ true

  abbrev pub HaveAcked : Type 0
  HaveAcked = HaveAckedBefore (length graph.tasks)

  -- each task has copied, and the barrier was taken from each channel
  pub record HaveEnded : Type 0 where
    pub pending : IsPending h
    pub copied : HaveCopied
    pub come : HaveAllCome
