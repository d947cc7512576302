-- What a running job keeps of its devices, when the store changes.
use Rattle.std.proofs.Common.{◌⊎◌, ◌≡◌, ◌<◌, ◌≤◌, inl, inr, Option, Some, None, Ok, All, MatchOption, is_some, unwrap_or, slice_get, slice_set, length, map, ℕ, Bool, true, false, List, [], sym, ap, subst, ◌∙◌, arith}
use Rattle.std.proofs.lemmas.List.Elements.{All-weaker}
use Rattle.std.proofs.lemmas.Option.{same_Some, none-some, MatchOption-at_some}
use mathlib.Core.Path.{fun_ext}
use Rattle.abs_codec.specs.Reading.{whole_of}
use Rattle.commit_sink.specs.Sink.{Sinking}
use Rattle.commit_sink.specs.declared.sink.Pending.{Pending}
use Rattle.coordinator.specs.Coordinator.{has_acked}
use Rattle.job_graph.specs.Expanded.{Expanded}
use Rattle.job_state.specs.Held.{Held, copy_at, logs_of, marked_inputs, with_logs, with_started, with_acknowledged, with_completed}
use Rattle.snapshot_store.specs.Store.{Stored, IsNumbered, is_complete, with_part, completed, reserved}
use Rattle.task_part.specs.Spelling.{Logs}
use Rattle.task_part.specs.declared.part.Part.{Part}
use Rattle.engine_model.specs.Language.{Language}
use Rattle.engine_model.specs.State.{State}
use Rattle.engine_model.specs.Keeps.{PendingIn, RunsIn}
use Rattle.engine_model.specs.Calls.{tidied}
use Rattle.engine_model.proofs.Lists.{get_set_other}
use Rattle.engine_model.proofs.Ledger.LastPending.{all_at}
use Rattle.engine_model.proofs.Store.Put.{pending_put}
use Rattle.engine_model.proofs.Store.Complete.{still_complete, completed_complete, completed_last}
use Rattle.engine_model.proofs.Store.Trigger.{pending_started_tidied, tidied_complete}

module _ {R K S O : Type 0} (lang : Language R K S O) (graph : Expanded) (stored : Stored) (h k : Held R K S) (n : ℕ) (pending : PendingIn lang graph stored h n) where
  -- records move; a task that has acknowledged logs no more
  pub pending_moved : IsNumbered stored → k.copies ≡ h.copies → k.coordination ≡ h.coordination → ((t : ℕ) → has_acked h.coordination t ≡ true → logs_of graph k t ≡ logs_of graph h t) → PendingIn lang graph stored k n
  pending_moved numbered copies coordination logs = record {
    positive = pending.positive;
    given = pending.given;
    above = pending.above;
    parts = λ t within. rw coordination (pending.parts t within);
    spelled = λ t bytes there.
        let old = pending.spelled t bytes there in
        let within : t < stored.tasks = (numbered.parts n t (ap is_some there)).2 in
        let acked : has_acked h.coordination t ≡ true = sym (pending.parts t within) ∙ ap is_some there in (
          old.0,
          ap (λ (cs : List (Option (Part R K S))). unwrap_or (slice_get cs t) None) copies ∙ old.1,
          old.2 ∙ ap (λ (l : Logs R). Ok (with_logs l old.0)) (sym (logs t acked)),
        );
  }

  -- a task copies
  pub pending_copied : (task : ℕ) (p : Part R K S) → copy_at h task ≡ None → k.copies ≡ slice_set h.copies task (Some p) → k.coordination ≡ h.coordination → k.logs ≡ h.logs → PendingIn lang graph stored k n
  pending_copied task p none copies coordination logs = record {
    positive = pending.positive;
    given = pending.given;
    above = pending.above;
    parts = λ t within. rw coordination (pending.parts t within);
    spelled = λ t bytes there.
        let old = pending.spelled t bytes there in
        let apart : t ≡ task → ⊥ = λ same. none-some old.0 (sym none ∙ ap (copy_at h) (sym same) ∙ old.1) in (
          old.0,
          ap (λ (cs : List (Option (Part R K S))). unwrap_or (slice_get cs t) None) copies
              ∙ ap (λ (o : Option (Option (Part R K S))). unwrap_or o None) (get_set_other h.copies task t (Some p) apart)
              ∙ old.1,
          old.2 ∙ ap (λ (ls : List (List R)). Ok (with_logs (map (λ number. (number, unwrap_or (slice_get ls number) [])) (marked_inputs graph t)) old.0)) (sym logs),
        );
  }

module _ {R K S O : Type 0} (lang : Language R K S O) (s : State O R K S) (h : Held R K S) (runs : RunsIn lang s h) where
  pub runs_pending : (n : ℕ) → h.coordination.pending ≡ Some n → PendingIn lang s.graph s.stored h n
  runs_pending n is = MatchOption-at_some (Unit {0}) (PendingIn lang s.graph s.stored h) n is runs.pending

  -- a task's part is put and acknowledged
  pub runs_put : (n task : ℕ) (bytes : List ℕ) (p : Part R K S) → h.coordination.pending ≡ Some n → task < length h.coordination.acked → copy_at h task ≡ Some p → whole_of lang.read_part bytes ≡ Ok (with_logs (logs_of s.graph h task) p)
      → RunsIn lang (record s { stored = with_part s.stored n task bytes }) (with_acknowledged task h)
  runs_put n task bytes p is within copied reads = record {
    pending =
        subst (λ (o : Option ℕ). MatchOption o (Unit {0}) (PendingIn lang s.graph (with_part s.stored n task bytes) (with_acknowledged task h))) (sym is)
        (pending_put lang s.graph s.stored h n (runs_pending n is) task bytes p is within copied reads);
    last_complete = runs.last_complete;
    sinks = runs.sinks;
    checkpoints = runs.checkpoints;
    copied_last = runs.copied_last;
    last_pending = runs.last_pending;
  }

  -- the pending checkpoint is complete
  pub runs_completed : (n : ℕ) → h.coordination.pending ≡ Some n → RunsIn lang (record s { stored = completed s.stored n }) (with_completed n h)
  runs_completed n is = record {
    pending = tt;
    last_complete = completed_last lang s.graph s.stored h n (runs_pending n is);
    sinks = runs.sinks;
    checkpoints = λ t sink at. All-weaker (λ (p : Pending). (is_complete s.stored p.checkpoint ≡ true) ⊎ (h.coordination.pending ≡ Some p.checkpoint)) (λ p. (is_complete (completed s.stored n) p.checkpoint ≡ true) ⊎ (None ≡ Some p.checkpoint)) now sink.pending (runs.checkpoints t sink at);
    copied_last = λ t number sink at e none. absurd (none-some number e);
    last_pending = λ t sink at i p here e. absurd (none-some p.checkpoint e);
  }
    where
      now : (p : Pending) → (is_complete s.stored p.checkpoint ≡ true) ⊎ (h.coordination.pending ≡ Some p.checkpoint) → (is_complete (completed s.stored n) p.checkpoint ≡ true) ⊎ (None ≡ Some p.checkpoint)
      now p (inl e) = inl (still_complete s.stored n p.checkpoint e)
      now p (inr e) = inl (ap (is_complete (completed s.stored n)) (same_Some p.checkpoint n (sym e ∙ is)) ∙ completed_complete s.stored n)

  module _ (none_pending : h.coordination.pending ≡ None) where
    abbrev tidy : Stored
    tidy = tidied h.coordination.last_complete s.stored

    same_complete : is_complete tidy ≡ is_complete s.stored
    same_complete = fun_ext (tidied_complete h.coordination.last_complete s.stored)

    abbrev LastOf : (ℕ → Bool) → Type 0
    LastOf f = MatchOption h.coordination.last_complete ((n : ℕ) → f n ≡ false) (λ last. (f last ≡ true) × ((n : ℕ) → f n ≡ true → n ≤ last))

    last_stays : LastOf (is_complete tidy)
    last_stays = subst LastOf (sym same_complete) runs.last_complete

    all_complete : (task : ℕ) (sink : Sinking) → All (λ (p : Pending). (is_complete s.stored p.checkpoint ≡ true) ⊎ (h.coordination.pending ≡ Some p.checkpoint)) sink.pending → All (λ (p : Pending). is_complete tidy p.checkpoint ≡ true) sink.pending
    all_complete task sink all = All-weaker (λ (p : Pending). (is_complete s.stored p.checkpoint ≡ true) ⊎ (h.coordination.pending ≡ Some p.checkpoint)) (λ p. is_complete tidy p.checkpoint ≡ true) now sink.pending all
      where
        now : (p : Pending) → (is_complete s.stored p.checkpoint ≡ true) ⊎ (h.coordination.pending ≡ Some p.checkpoint) → is_complete tidy p.checkpoint ≡ true
        now p (inl e) = tidied_complete h.coordination.last_complete s.stored p.checkpoint ∙ e
        now p (inr e) = absurd (none-some p.checkpoint (sym none_pending ∙ e))

    -- a checkpoint begins
    pub runs_started : IsNumbered s.stored → RunsIn lang (record s { stored = reserved tidy }) (with_started s.stored.next h)
    runs_started numbered = record {
      pending = pending_started_tidied lang s.graph h.coordination.last_complete s.stored h numbered;
      last_complete = last_stays;
      sinks = runs.sinks;
      checkpoints = λ t sink at. All-weaker (λ (p : Pending). is_complete tidy p.checkpoint ≡ true) (λ p. (is_complete tidy p.checkpoint ≡ true) ⊎ (Some s.stored.next ≡ Some p.checkpoint)) (λ p e. inl e) sink.pending (all_complete t sink (runs.checkpoints t sink at));
      copied_last = λ t number sink at e none. all_complete t sink (runs.checkpoints t sink at);
      last_pending = λ t sink at i p here e. absurd (not_next p.checkpoint (all_at (λ (q : Pending). is_complete tidy q.checkpoint ≡ true) sink.pending i p (all_complete t sink (runs.checkpoints t sink at)) here) (same_Some s.stored.next p.checkpoint e));
    }
      where
        -- the new number is above all that are complete
        not_next : (n : ℕ) → is_complete tidy n ≡ true → s.stored.next ≡ n → ⊥
        not_next n complete same =
            let less : n < s.stored.next = (pending_started_tidied lang s.graph h.coordination.last_complete s.stored h numbered).above n complete in
            omega (arith, less, same)

    -- the parts below the last complete number are gone, and no number was left
    pub runs_tidied : RunsIn lang (record s { stored = tidy }) h
    runs_tidied = record {
      pending = subst (λ (o : Option ℕ). MatchOption o (Unit {0}) (PendingIn lang s.graph tidy h)) (sym none_pending) tt;
      last_complete = last_stays;
      sinks = runs.sinks;
      checkpoints = λ t sink at. All-weaker (λ (p : Pending). is_complete tidy p.checkpoint ≡ true) (λ p. (is_complete tidy p.checkpoint ≡ true) ⊎ (h.coordination.pending ≡ Some p.checkpoint)) (λ p e. inl e) sink.pending (all_complete t sink (runs.checkpoints t sink at));
      copied_last = λ t number sink at e none. all_complete t sink (runs.checkpoints t sink at);
      last_pending = λ t sink at i p here e. absurd (none-some p.checkpoint (sym none_pending ∙ e));
    }
