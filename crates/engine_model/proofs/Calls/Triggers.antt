-- A checkpoint begins, as a call of the engine.
use Rattle.std.proofs.Common.{◌≡◌, ◌≤◌, inl, inr, MatchOption, Option, Some, None, Result, Ok, Err, is_some, slice_get, ℕ, true, false, refl, sym, ap, subst, ◌∙◌}
use Rattle.checkpoint_model.specs.Headline.{TriggersACheckpoint, DiscardsParts}
use Rattle.checkpoint_model.specs.Pruned.{pruned_run}
use Rattle.checkpoint_model.proofs.PrunedViews.{pruned_twice}
use Rattle.job_state.specs.Held.{Held, with_started}
use Rattle.snapshot_store.specs.Store.{Stored, IsNumbered, is_complete, reserved}
use Rattle.engine_model.specs.AllRules.{AllRules}
use Rattle.engine_model.specs.State.{State}
use Rattle.engine_model.specs.View.{run_of, transactions_at, engine_of}
use Rattle.engine_model.specs.Keeps.{PartsAreFormed, Keeps}
use Rattle.engine_model.specs.Calls.{EndsTrigger, tidied, left_by}
use Rattle.engine_model.specs.Goes.{Goes}
use Rattle.engine_model.specs.declared.fault.CoreFault.{CoreFault}
use Rattle.engine_model.specs.declared.fault.CoreFault.TheVariants.{CheckpointPending, NumbersSpent, Device}
use Rattle.engine_model.proofs.Shape.ShapesKept.{shape_started}
use Rattle.engine_model.proofs.Store.Steps.{run_started, held_started, engine_triggers, engine_discards}
use Rattle.engine_model.proofs.Store.Trigger.{numbered_tidied, tidied_next, tidied_tasks}
use Rattle.engine_model.proofs.Store.Runs.{runs_started, runs_tidied}
use Rattle.engine_model.proofs.Store.Formed.{formed_tidied}
use Rattle.engine_model.proofs.Calls.Goes.{after, goes_nowhere, goes_by, goes_on, goes_then_down, goes_down, goes_keeps, runs_same, shape_of, runs_of, KeepsAndGoes, keeps_refused, keeps_down}

module _ {R K S O : Type 0} (rules : AllRules R K S O) (s : State O R K S) (keeps : Keeps rules s) (h : Held R K S) (was : s.held ≡ Some h) where
  abbrev LastIs : Option ℕ → Type 0
  LastIs last = MatchOption last ((n : ℕ) → is_complete s.stored n ≡ false) (λ l. (is_complete s.stored l ≡ true) × ((n : ℕ) → is_complete s.stored n ≡ true → n ≤ l))

  -- the parts below the last complete number are discarded, if there is one
  goes_tidied : (n : ℕ) (last : Option ℕ) → LastIs last → Goes rules.lang s (after s (Some h) (tidied last s.stored) s.ledger n)
  goes_tidied n None is = goes_nowhere rules.lang s (after s (Some h) s.stored s.ledger n) (λ i. engine_of rules.lang (record s { held = sym was i }))
  goes_tidied n (Some last) is =
      goes_by rules.lang s h h (tidied (Some last) s.stored) s.ledger n (run_of rules.lang.cmp s.graph h) was refl
      (DiscardsParts last (engine_discards rules.lang s h s.stored (λ t. transactions_at s.ledger (slice_get s.graph.tasks t)) (run_of rules.lang.cmp s.graph h) last keeps.numbered is.0 is.1))

  abbrev tidy : Stored
  tidy = tidied h.coordination.last_complete s.stored

  tidy_formed : s.is_fresh ≡ true → PartsAreFormed rules s.graph tidy
  tidy_formed fresh = formed_tidied rules s.graph h.coordination.last_complete s.stored (keeps.formed fresh)

  tidies : (n : ℕ) → Goes rules.lang s (after s (Some h) tidy s.ledger n)
  tidies n = goes_tidied n h.coordination.last_complete (runs_of rules s keeps h was).last_complete

  module _ (n : ℕ) (none_pending : h.coordination.pending ≡ None) where
    goes_started : Goes rules.lang s (after s (Some (with_started s.stored.next h)) (reserved tidy) s.ledger n)
    goes_started =
        let to = run_started rules.lang.cmp s.graph h tidy.next (run_of rules.lang.cmp s.graph h) in
        let more : Goes rules.lang (after s (Some h) tidy s.ledger n) (after s (Some (with_started s.stored.next h)) (reserved tidy) s.ledger n) =
        goes_by rules.lang (after s (Some h) tidy s.ledger n) h (with_started s.stored.next h) (reserved tidy) s.ledger n to refl
        (sym (pruned_twice to) ∙ ap pruned_run (held_started rules.lang.cmp s.graph h tidy.next ∙ ap (λ m. run_of rules.lang.cmp s.graph (with_started m h)) (tidied_next h.coordination.last_complete s.stored)))
        (TriggersACheckpoint (engine_triggers rules.lang s h tidy (λ t. transactions_at s.ledger (slice_get s.graph.tasks t)) (run_of rules.lang.cmp s.graph h) (ap is_some none_pending) (numbered_tidied h.coordination.last_complete s.stored keeps.numbered))) in
        goes_on rules.lang s (Some h) tidy s.ledger n (after s (Some (with_started s.stored.next h)) (reserved tidy) s.ledger n) (tidies n) more

    keeps_started : IsNumbered (reserved tidy) → KeepsAndGoes rules s (after s (Some (with_started s.stored.next h)) (reserved tidy) s.ledger n)
    keeps_started numbered =
        goes_keeps rules s keeps (Some (with_started s.stored.next h)) (reserved tidy) s.ledger n (tidied_tasks h.coordination.last_complete s.stored) numbered (λ fresh. tidy_formed fresh) refl keeps.ordered
        (shape_started rules s.graph s.operators h (shape_of rules s keeps h was) s.stored.next none_pending)
        (runs_same rules.lang (record s { stored = reserved tidy }) (after s (Some (with_started s.stored.next h)) (reserved tidy) s.ledger n) (with_started s.stored.next h) refl refl refl
        (runs_started rules.lang s h (runs_of rules s keeps h was) none_pending keeps.numbered))
        goes_started

    keeps_tidied : IsNumbered tidy → KeepsAndGoes rules s (after s (Some h) tidy s.ledger n)
    keeps_tidied numbered =
        goes_keeps rules s keeps (Some h) tidy s.ledger n (tidied_tasks h.coordination.last_complete s.stored) numbered tidy_formed refl keeps.ordered
        (shape_of rules s keeps h was)
        (runs_same rules.lang (record s { stored = tidy }) (after s (Some h) tidy s.ledger n) h refl refl refl (runs_tidied rules.lang s h (runs_of rules s keeps h was) none_pending))
        (tidies n)

  module _ (k : Held R K S) (stored : Stored) (n : ℕ) (numbered : IsNumbered stored) where
    abbrev Kept : Option (Held R K S) → Stored → Type 0
    Kept held store = KeepsAndGoes rules s (after s held store s.ledger n)

    falls : (held : Option (Held R K S)) (store : Stored) → Goes rules.lang s (after s held store s.ledger n) → store.tasks ≡ s.stored.tasks → (s.is_fresh ≡ true → PartsAreFormed rules s.graph store) → stored ≡ store → Kept None stored
    falls held store goes tasks formed is =
        keeps_down rules s keeps stored s.ledger n (ap (λ (x : Stored). x.tasks) is ∙ tasks) numbered (λ fresh. subst (PartsAreFormed rules s.graph) (sym is) (formed fresh)) refl keeps.ordered
        (subst (λ (x : Stored). Goes rules.lang s (after s None x s.ledger n)) (sym is) (goes_then_down rules.lang s held store s.ledger n goes))

    pub keeps_trigger : (result : Result ℕ CoreFault) → EndsTrigger h k s.stored stored result
        → Keeps rules (record s { held = left_by result (Some k); stored = stored; faults = n }) × Goes rules.lang s (record s { held = left_by result (Some k); stored = stored; faults = n })
    keeps_trigger (Ok number) e =
        subst (λ (x : Held R K S). Kept (Some x) stored) (sym e.3)
        (subst (λ (x : Stored). Kept (Some (with_started s.stored.next h)) x) (sym e.2) (keeps_started n e.0 (subst IsNumbered e.2 numbered)))
    keeps_trigger (Err CheckpointPending) e = keeps_refused rules s keeps h k stored s.ledger n was e.1 e.2 refl
    keeps_trigger (Err NumbersSpent) e =
        subst (λ (x : Held R K S). Kept (Some x) stored) (sym e.2)
        (subst (λ (x : Stored). Kept (Some h) x) (sym e.3) (keeps_tidied n e.0 (subst IsNumbered e.3 numbered)))
    keeps_trigger (Err Device) e =
        elim e.1 [
          | inl early ↦ elim early [
            | inl same ↦ keeps_down rules s keeps stored s.ledger n (ap (λ (x : Stored). x.tasks) same) numbered (λ fresh. subst (PartsAreFormed rules s.graph) (sym same) (keeps.formed fresh)) refl keeps.ordered (goes_down rules.lang s stored s.ledger n same refl)
            | inr tidies_only ↦ falls (Some h) tidy (tidies n) (tidied_tasks h.coordination.last_complete s.stored) tidy_formed tidies_only
          ]
          | inr done ↦ falls (Some (with_started s.stored.next h)) (reserved tidy) (goes_started n e.0) (tidied_tasks h.coordination.last_complete s.stored) (λ fresh. tidy_formed fresh) done
        ]
    keeps_trigger (Err other) e = absurd e
