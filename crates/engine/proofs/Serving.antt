-- What a running job gives its calls.
use Rattle.std.proofs.Common.{◌≡◌, ◌<◌, Some, None, Result, Ok, Err, OnOk, IfOk, slice_get, length, ℕ, true, refl, sym, subst, ◌∙◌}
use Rattle.commit_sink.specs.Ledger.{Ledger}
use Rattle.coordinator.specs.Coordinator.{IsReady}
use Rattle.job_graph.specs.declared.role.Role.TheVariants as role
use Rattle.job_state.specs.Held.{Held}
use Rattle.snapshot_store.specs.Store.{Stored, complete_refusal, has_all_parts}
use Rattle.engine_model.proofs.Numbers.{source_within}
use Rattle.engine_model.specs.AllRules.{AllRules}
use Rattle.engine_model.specs.Calls.{EndsComplete}
use Rattle.engine_model.specs.Commits.{EndsCommit}
use Rattle.engine_model.specs.Keeps.{Keeps}
use Rattle.engine_model.specs.LastCommitted.{committed_of, complete_numbers}
use Rattle.engine_model.specs.declared.fault.CoreFault.{CoreFault}
use Rattle.engine_model.specs.Sound.{IsSound}
use Rattle.engine_model.specs.State.{State}
use Rattle.engine_model.proofs.Calls.Lasts.{commits_reach}
use Rattle.engine_model.proofs.Calls.Goes.{shape_of, runs_of}
use Rattle.engine_model.proofs.Sounds.{as_fresh, keeps_as_fresh}
use Rattle.engine_model.proofs.Store.Complete.{may_complete, ready_parts}
use Rattle.engine_model.proofs.Store.Runs.{runs_pending}
use Rattle.claims.specs.Tasks.{Serves}

module _ {R K S O : Type 0} (rules : AllRules R K S O) (s : State O R K S) (keeps : Keeps rules s) (h : Held R K S) (is : s.held ≡ Some h) where
  pub serves : Serves rules s.graph s.operators s.ledger h
  serves = record {
    expanded = keeps.expanded;
    given = keeps.operators;
    subtasks = keeps.subtasks;
    shape = shape_of rules s keeps h is;
    sinks = (runs_of rules s keeps h is).sinks;
  }

  -- each source has its partition
  pub partitions_there : (task partition : ℕ) → slice_get s.graph.tasks task ≡ Some (role.Source partition) → partition < length s.partitions
  partitions_there task partition at = subst (λ n. partition < n) (sym keeps.partitions) (source_within s.graph keeps.expanded task partition at)

  -- a checkpoint of which every part is acknowledged may be completed
  pub completes : (n : ℕ) → h.coordination.pending ≡ Some n → IsReady h.coordination → complete_refusal s.stored n ≡ None
  completes n pending ready =
      may_complete rules.lang s.graph s.stored h n (runs_pending rules.lang s h (runs_of rules s keeps h is) n pending) ready ((shape_of rules s keeps h is).acked ∙ sym keeps.stored_tasks)

  -- a commit at Ok leaves as many committed transactions as there are complete checkpoints
  module _ (sound : IsSound rules s) (subtask : ℕ) (k : Held R K S) (ledger : Ledger) where
    pub reaches : (result : Result Unit CoreFault) → EndsCommit s.graph subtask h k s.ledger ledger result → OnOk result (length (committed_of ledger subtask) ≡ length (complete_numbers s.stored))
    reaches (Ok u) ends = commits_reach rules (as_fresh rules s) (keeps_as_fresh rules s keeps sound) refl h is subtask k ledger u ends
    reaches (Err fault) ends = tt

  -- a checkpoint that is complete now has every part
  module _ (stored : Stored) (k : Held R K S) where
    pub whole : (result : Result ℕ CoreFault) → EndsComplete h k s.stored stored result → IfOk result (λ n. has_all_parts stored n ≡ true)
    whole (Ok n) ends =
        subst (λ (x : Stored). has_all_parts x n ≡ true) (sym ends.2)
        (ready_parts rules.lang s.graph s.stored h n (runs_pending rules.lang s h (runs_of rules s keeps h is) n ends.0) ends.1 ((shape_of rules s keeps h is).acked ∙ sym keeps.stored_tasks))
    whole (Err fault) ends = tt
