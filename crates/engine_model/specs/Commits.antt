-- How the call ends that commits a sink's pending transactions, the oldest first, up to the last complete checkpoint.
use Rattle.std.specs.Prelude.{◌≡◌, ◌≢◌, ◌⊎◌, ℕ, List, [], ◌∷◌, slice_get, Some, Result, Ok, Err}
use Rattle.commit_sink.specs.Ledger.{Ledger, after_commit}
use Rattle.commit_sink.specs.Sink.{Sinking}
use Rattle.commit_sink.specs.declared.sink.Pending.{Pending}
use Rattle.job_graph.specs.Expanded.{Expanded}
use Rattle.job_graph.specs.declared.role.Role.TheVariants as role
use Rattle.job_state.specs.Held.{Held, oldest_forgotten}
use Rattle.job_state.specs.declared.holding.Holding.TheVariants as holds
use Rattle.engine_model.specs.declared.fault.CoreFault.{CoreFault}
use Rattle.engine_model.specs.declared.fault.CoreFault.TheVariants.{NoSuchTask, CommitFault}

module _ {R K S : Type 0} (task : ℕ) where
  -- the sink's oldest pending transaction, of a checkpoint that is complete: one that is not pending any more
  pub record IsNext (h : Held R K S) (sink : Sinking) (p : Pending) : Type 0 where
    pub was : slice_get h.tasks task ≡ Some (holds.Sink sink)
    pub oldest : slice_get sink.pending 0 ≡ Some p
    pub complete : h.coordination.pending ≢ Some p.checkpoint

  -- no transaction of a complete checkpoint is left to commit
  abbrev pub NoneIsNext : Held R K S → Type 0
  NoneIsNext h = (sink : Sinking) (p : Pending) → ¬ IsNext h sink p

  -- it is committed, and forgotten
  pub record CommitsOne (h : Held R K S) (old : Ledger) (k : Held R K S) (new : Ledger) : Type 0 where
    pub sink : Sinking
    pub next : Pending
    pub is_next : IsNext h sink next
    pub commits : new ≡ after_commit old next.transaction
    pub ends : k ≡ oldest_forgotten task sink h

  -- the device failed, before its work or after it: the transaction stays pending
  pub record FailsToCommit (h : Held R K S) (old : Ledger) (k : Held R K S) (new : Ledger) : Type 0 where
    pub sink : Sinking
    pub next : Pending
    pub is_next : IsNext h sink next
    pub either : (new ≡ old) ⊎ (new ≡ after_commit old next.transaction)
    pub ends : k ≡ h

  -- one after another, each leaving these
  abbrev pub CommitsEach : Held R K S → Ledger → List (Held R K S × Ledger) → Held R K S → Ledger → Type 0
  CommitsEach h old [] k new = (k ≡ h) × (new ≡ old)
  CommitsEach h old (next ∷ rest) k new = CommitsOne h old next.0 next.1 × CommitsEach next.0 next.1 rest k new

  -- each that can be is committed
  pub record CommitsAll (h : Held R K S) (old : Ledger) (k : Held R K S) (new : Ledger) : Type 0 where
    pub rounds : List (Held R K S × Ledger)
    pub each : CommitsEach h old rounds k new
    pub none_next : NoneIsNext k

  -- some are, and then the device failed
  pub record CommitsSome (h : Held R K S) (old : Ledger) (k : Held R K S) (new : Ledger) : Type 0 where
    pub rounds : List (Held R K S × Ledger)
    pub middle : Held R K S × Ledger
    pub each : CommitsEach h old rounds middle.0 middle.1
    pub fails : FailsToCommit middle.0 middle.1 k new

-- the call for a sink subtask
abbrev pub EndsCommit : {R K S : Type 0} → Expanded → ℕ → Held R K S → Held R K S → Ledger → Ledger → Result Unit CoreFault → Type 0
EndsCommit graph subtask h k old new (Ok u) = (task : ℕ) × (slice_get graph.tasks task ≡ Some (role.Sink subtask)) × CommitsAll task h old k new
EndsCommit graph subtask h k old new (Err NoSuchTask) = ((task : ℕ) → slice_get graph.tasks task ≢ Some (role.Sink subtask)) × (k ≡ h) × (new ≡ old)
EndsCommit graph subtask h k old new (Err CommitFault) = (task : ℕ) × (slice_get graph.tasks task ≡ Some (role.Sink subtask)) × CommitsSome task h old k new
EndsCommit graph subtask h k old new (Err other) = ⊥
