-- What a running job keeps of its devices, when records move and tasks copy.
use Rattle.std.proofs.Common.{◌≡◌, ◌<◌, inl, inr, Option, Some, None, MatchOption, unwrap_or, slice_get, slice_set, length, map, ℕ, true, List, [], refl, sym, ap, subst, ◌∙◌}
use Rattle.std.proofs.lemmas.Option.{same_Some}
use Rattle.commit_sink.specs.Ledger.{Ledger}
use Rattle.commit_sink.specs.Sink.{Sinking}
use Rattle.coordinator.specs.Coordinator.{Coordination, has_acked}
use Rattle.job_graph.specs.declared.role.Role.TheVariants as role
use Rattle.job_state.specs.Held.{Held, copy_at, logs_of, marked_inputs}
use Rattle.job_state.specs.declared.holding.Holding.{Holding}
use Rattle.job_state.specs.declared.holding.Holding.TheVariants as holds
use Rattle.snapshot_store.specs.Store.{IsNumbered}
use Rattle.task_part.specs.declared.part.Part.{Part}
use Rattle.engine_model.specs.Keeps.{SinkIn, PendingIn, RunsIn}
use Rattle.engine_model.specs.Language.{Language}
use Rattle.engine_model.specs.State.{State}
use Rattle.engine_model.proofs.Lists.{get_set_same, get_set_other}
use Rattle.engine_model.proofs.Calls.Steps.{after}
use Rattle.engine_model.proofs.Store.Runs.{pending_moved, pending_copied, runs_pending}
use Rattle.std.proofs.lemmas.Bool.Decides.{eqb_tells}

module _ {R K S O : Type 0} (lang : Language R K S O) (s : State O R K S) (h k : Held R K S) (runs : RunsIn lang s h) (ledger : Ledger) (held : Option (Held R K S)) (n : ℕ) where
  -- the sinks hold what they held
  abbrev pub SameSinks : Type 0
  SameSinks = (task : ℕ) (sink : Sinking) → slice_get k.tasks task ≡ Some (holds.Sink sink) → slice_get h.tasks task ≡ Some (holds.Sink sink)

  -- and each is in the ledger
  abbrev pub SinksIn : Ledger → Held R K S → Type 0
  SinksIn l holder = (task subtask : ℕ) (sink : Sinking) → slice_get s.graph.tasks task ≡ Some (role.Sink subtask) → slice_get holder.tasks task ≡ Some (holds.Sink sink) → SinkIn l subtask sink

  -- a task that has acknowledged logs no more
  abbrev pub LogsStay : Type 0
  LogsStay = (t : ℕ) → has_acked h.coordination t ≡ true → logs_of s.graph k t ≡ logs_of s.graph h t

  -- nothing is logged
  pub logs_same : k.logs ≡ h.logs → LogsStay
  logs_same same = λ t acked. ap (λ (ls : List (List R)). map (λ number. (number, unwrap_or (slice_get ls number) [])) (marked_inputs s.graph t)) same

  -- records and barriers move
  pub runs_moved : IsNumbered s.stored → LogsStay → k.copies ≡ h.copies → k.coordination ≡ h.coordination → SameSinks → SinksIn ledger h → RunsIn lang (after lang s ledger held n) k
  runs_moved numbered logs copies coordination same sinks = record {
    pending = pending_stays h.coordination.pending refl;
    last_complete = rw coordination runs.last_complete;
    sinks = λ task subtask sink is at. sinks task subtask sink is (same task sink at);
    checkpoints = λ task sink at. rw coordination (runs.checkpoints task sink (same task sink at));
    copied_last = λ task number sink at pending none.
        runs.copied_last task number sink (same task sink at) (ap (λ (c : Coordination). c.pending) (sym coordination) ∙ pending) (ap (λ (cs : List (Option (Part R K S))). unwrap_or (slice_get cs task) None) (sym copies) ∙ none);
    last_pending = λ task sink at. rw coordination (runs.last_pending task sink (same task sink at));
  }
    where
      pending_stays : (o : Option ℕ) → h.coordination.pending ≡ o → MatchOption k.coordination.pending (Unit {0}) (PendingIn lang s.graph s.stored k)
      pending_stays None e = subst (λ (p : Option ℕ). MatchOption p (Unit {0}) (PendingIn lang s.graph s.stored k)) (sym (ap (λ (c : Coordination). c.pending) coordination ∙ e)) tt
      pending_stays (Some number) e =
          subst (λ (p : Option ℕ). MatchOption p (Unit {0}) (PendingIn lang s.graph s.stored k)) (sym (ap (λ (c : Coordination). c.pending) coordination ∙ e))
          (pending_moved lang s.graph s.stored h k number (runs_pending lang s h runs number e) numbered copies coordination logs)

  -- a task that is no sink copies
  pub runs_copied : (task : ℕ) (p : Part R K S) → task < length h.copies → copy_at h task ≡ None → k.copies ≡ slice_set h.copies task (Some p) → k.coordination ≡ h.coordination → k.logs ≡ h.logs → SameSinks → SinksIn ledger h
      → RunsIn lang (after lang s ledger held n) k
  runs_copied task p within none copies coordination logs same sinks = record {
    pending = pending_stays h.coordination.pending refl;
    last_complete = rw coordination runs.last_complete;
    sinks = λ t subtask sink is at. sinks t subtask sink is (same t sink at);
    checkpoints = λ t sink at. rw coordination (runs.checkpoints t sink (same t sink at));
    copied_last = λ t number sink at pending not_yet.
        runs.copied_last t number sink (same t sink at) (ap (λ (c : Coordination). c.pending) (sym coordination) ∙ pending) (not_before t not_yet);
    last_pending = λ t sink at. rw coordination (runs.last_pending t sink (same t sink at));
  }
    where
      pending_stays : (o : Option ℕ) → h.coordination.pending ≡ o → MatchOption k.coordination.pending (Unit {0}) (PendingIn lang s.graph s.stored k)
      pending_stays None e = subst (λ (q : Option ℕ). MatchOption q (Unit {0}) (PendingIn lang s.graph s.stored k)) (sym (ap (λ (c : Coordination). c.pending) coordination ∙ e)) tt
      pending_stays (Some number) e =
          subst (λ (q : Option ℕ). MatchOption q (Unit {0}) (PendingIn lang s.graph s.stored k)) (sym (ap (λ (c : Coordination). c.pending) coordination ∙ e))
          (pending_copied lang s.graph s.stored h k number (runs_pending lang s h runs number e) task p none copies coordination logs)

      not_before : (t : ℕ) → copy_at k t ≡ None → copy_at h t ≡ None
      not_before t not_yet =
          elim (eqb_tells t task) [
            | inl e ↦ ap (copy_at h) e.1 ∙ none
            | inr e ↦ ap (λ (o : Option (Option (Part R K S))). unwrap_or o None) (sym (get_set_other h.copies task t (Some p) e.1)) ∙ ap (λ (cs : List (Option (Part R K S))). unwrap_or (slice_get cs t) None) (sym copies) ∙ not_yet
          ]

-- a task that comes to hold what is no sink's leaves the sinks
pub no_other_sinks : {K S : Type 0} (tasks : List (Holding K S)) (task : ℕ) (holding : Holding K S) → task < length tasks → ((sink : Sinking) → holding ≡ holds.Sink sink → ⊥)
    → (t : ℕ) (sink : Sinking) → slice_get (slice_set tasks task holding) t ≡ Some (holds.Sink sink) → slice_get tasks t ≡ Some (holds.Sink sink)
no_other_sinks tasks task holding within not_sink t sink at =
    elim (eqb_tells t task) [
      | inl e ↦ absurd (not_sink sink (same_Some holding (holds.Sink sink) (sym (get_set_same tasks task holding within) ∙ ap (slice_get (slice_set tasks task holding)) (sym e.1) ∙ at)))
      | inr e ↦ sym (get_set_other tasks task t holding e.1) ∙ at
    ]
