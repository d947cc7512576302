-- The pending checkpoint is complete, as a call of the engine.
use Rattle.std.proofs.Common.{◌≡◌, inl, inr, Some, None, Result, Ok, Err, slice_get, ℕ, refl, sym, ap, subst, ◌∙◌}
use Rattle.checkpoint_model.specs.Headline.{CompletesACheckpoint}
use Rattle.checkpoint_model.specs.Pruned.{pruned_run}
use Rattle.checkpoint_model.proofs.PrunedViews.{pruned_twice}
use Rattle.coordinator.specs.Coordinator.{IsReady}
use Rattle.job_state.specs.Held.{Held, with_completed}
use Rattle.snapshot_store.specs.Store.{Stored, IsNumbered, completed}
use Rattle.engine_model.specs.AllRules.{AllRules}
use Rattle.engine_model.specs.State.{State}
use Rattle.engine_model.specs.View.{run_of, transactions_at}
use Rattle.engine_model.specs.Keeps.{PartsAreFormed, Keeps}
use Rattle.engine_model.specs.Calls.{EndsComplete, left_by}
use Rattle.engine_model.specs.Goes.{Goes}
use Rattle.engine_model.specs.declared.fault.CoreFault.{CoreFault}
use Rattle.engine_model.specs.declared.fault.CoreFault.TheVariants.{NoCheckpoint, NotAllAcked, Device}
use Rattle.engine_model.proofs.Shape.ShapesKept.{shape_completed}
use Rattle.engine_model.proofs.Store.Steps.{run_completed, held_completed, engine_completes}
use Rattle.engine_model.proofs.Store.Runs.{runs_pending, runs_completed}
use Rattle.engine_model.proofs.Calls.Goes.{after, goes_by, goes_then_down, goes_down, goes_keeps, runs_same, shape_of, runs_of, KeepsAndGoes, keeps_refused, keeps_down}

module _ {R K S O : Type 0} (rules : AllRules R K S O) (s : State O R K S) (keeps : Keeps rules s) (h : Held R K S) (was : s.held ≡ Some h) where
  module _ (checkpoint n : ℕ) (pending : h.coordination.pending ≡ Some checkpoint) where
    goes_completed : IsReady h.coordination → Goes rules.lang s (after s (Some (with_completed checkpoint h)) (completed s.stored checkpoint) s.ledger n)
    goes_completed ready =
        let run = run_completed rules.lang.cmp s.graph h (run_of rules.lang.cmp s.graph h) in
        goes_by rules.lang s h (with_completed checkpoint h) (completed s.stored checkpoint) s.ledger n run was
        (sym (pruned_twice run) ∙ ap pruned_run (held_completed rules.lang.cmp s.graph h checkpoint))
        (CompletesACheckpoint (engine_completes rules.lang s h s.stored (λ t. transactions_at s.ledger (slice_get s.graph.tasks t)) checkpoint
        (runs_pending rules.lang s h (runs_of rules s keeps h was) checkpoint pending) pending ready ((shape_of rules s keeps h was).acked ∙ sym keeps.stored_tasks) keeps.stored_tasks))

    keeps_completed : IsReady h.coordination → IsNumbered (completed s.stored checkpoint) → KeepsAndGoes rules s (after s (Some (with_completed checkpoint h)) (completed s.stored checkpoint) s.ledger n)
    keeps_completed ready numbered =
        goes_keeps rules s keeps (Some (with_completed checkpoint h)) (completed s.stored checkpoint) s.ledger n refl numbered keeps.formed refl keeps.ordered
        (shape_completed rules s.graph s.operators h (shape_of rules s keeps h was) checkpoint keeps.expanded ready)
        (runs_same rules.lang (record s { stored = completed s.stored checkpoint }) (after s (Some (with_completed checkpoint h)) (completed s.stored checkpoint) s.ledger n) (with_completed checkpoint h) refl refl refl
        (runs_completed rules.lang s h (runs_of rules s keeps h was) checkpoint pending))
        (goes_completed ready)

  module _ (k : Held R K S) (stored : Stored) (n : ℕ) (numbered : IsNumbered stored) where
    pub keeps_complete : (result : Result ℕ CoreFault) → EndsComplete h k s.stored stored result
        → Keeps rules (record s { held = left_by result (Some k); stored = stored; faults = n }) × Goes rules.lang s (record s { held = left_by result (Some k); stored = stored; faults = n })
    keeps_complete (Ok checkpoint) e =
        let made = keeps_completed checkpoint n e.0 e.1 (subst IsNumbered e.2 numbered) in
        subst (λ (x : Held R K S). KeepsAndGoes rules s (after s (Some x) stored s.ledger n)) (sym e.3)
        (subst (λ (x : Stored). KeepsAndGoes rules s (after s (Some (with_completed checkpoint h)) x s.ledger n)) (sym e.2) made)
    keeps_complete (Err NoCheckpoint) e = keeps_refused rules s keeps h k stored s.ledger n was e.1 e.2 refl
    keeps_complete (Err NotAllAcked) e = keeps_refused rules s keeps h k stored s.ledger n was e.2 e.3 refl
    keeps_complete (Err Device) e =
        elim e.3 [
          | inl same ↦ keeps_down rules s keeps stored s.ledger n (ap (λ (x : Stored). x.tasks) same) numbered (λ fresh. subst (PartsAreFormed rules s.graph) (sym same) (keeps.formed fresh)) refl keeps.ordered (goes_down rules.lang s stored s.ledger n same refl)
          | inr done ↦
              let goes = goes_then_down rules.lang s (Some (with_completed e.0 h)) (completed s.stored e.0) s.ledger n (goes_completed e.0 n e.1 e.2) in
              keeps_down rules s keeps stored s.ledger n (ap (λ (x : Stored). x.tasks) done) numbered (λ fresh. subst (PartsAreFormed rules s.graph) (sym done) (keeps.formed fresh)) refl keeps.ordered
              (subst (λ (x : Stored). Goes rules.lang s (after s None x s.ledger n)) (sym done) goes)
        ]
    keeps_complete (Err other) e = absurd e
