-- A sink with nothing left to commit has committed once for each complete checkpoint.
use Rattle.std.proofs.Common.{◌≡◌, ◌⊎◌, ◌<◌, option_map, inl, inr, All, Option, Some, None, Ok, slice_get, length, map, ℕ, true, false, List, [], ◌∷◌, ◌++◌, refl, sym, ap, subst, ◌∙◌, append_assoc, arith}
use Rattle.std.proofs.lemmas.List.{map-append, append_cancel_left}
use Rattle.std.proofs.lemmas.List.Elements.{All-nil, All-cons, All-head, All-tail, All-weaker}
use Rattle.std.proofs.lemmas.Option.{none-some, same_Some}
use Rattle.std.proofs.lemmas.Bool.Decides.{eqb_tells}
use Rattle.checkpoint_model.specs.Durable as durable
use Rattle.checkpoint_model.specs.Durable.{is_on, IsSink, numbers_of, transactions_of}
use Rattle.checkpoint_model.specs.PrunedLaws.{pruned_engine}
use Rattle.checkpoint_model.proofs.PrunedReached.{pruned_up_to_last}
use Rattle.commit_sink.specs.Ledger.{Ledger, Transaction, transaction_at}
use Rattle.commit_sink.specs.Sink.{Sinking}
use Rattle.commit_sink.specs.declared.sink.Pending.{Pending}
use Rattle.commit_sink.specs.declared.transactions.Progress.TheVariants.{PreCommitted}
use Rattle.job_graph.specs.PlainGraph.{task_of}
use Rattle.job_graph.specs.declared.role.Role.{Role}
use Rattle.job_graph.specs.declared.role.Role.TheVariants as role
use Rattle.job_graph.proofs.PlainTasks.{tasks-graph_of}
use Rattle.job_state.specs.Held.{Held, copy_at}
use Rattle.job_state.specs.declared.holding.Holding.TheVariants as holds
use Rattle.snapshot_store.specs.Store.{is_complete}
use Rattle.engine_model.specs.AllRules.{AllRules}
use Rattle.engine_model.specs.State.{State}
use Rattle.engine_model.specs.View.{job_of, is_logged_in, transactions_at, engine_of}
use Rattle.engine_model.specs.Keeps.{SinkIn, NoneAfter, RunsIn, Keeps}
use Rattle.engine_model.specs.Commits.{NoneIsNext, EndsCommit}
use Rattle.engine_model.specs.LastCommitted.{committed_of, complete_numbers}
use Rattle.engine_model.proofs.Store.View.{line_of, is_on-line_of}
use Rattle.engine_model.proofs.Ledger.Places.{same_at}
use Rattle.engine_model.proofs.Ledger.Shares.{share, Stands, pre_stand, pre_not_committed, same_checkpoint}
use Rattle.engine_model.proofs.Ledger.Sinks.{PendingIs}
use Rattle.engine_model.proofs.Ledger.Commit.{numbers_pre}
use Rattle.engine_model.proofs.Store.Put.{pending_incomplete}
use Rattle.engine_model.proofs.Store.Runs.{runs_pending}
use Rattle.engine_model.proofs.Ledger.LastPending.{only_one}
use Rattle.engine_model.proofs.Ledger.Rows.{count_in}
use Rattle.engine_model.proofs.Calls.Commits.{keeps_commit}
use Rattle.engine_model.proofs.Calls.Goes.{shape_of, runs_of}

-- ---- each that is pre-committed is one of those that the sink has pending

module _ {A B : Type 0} (f : A → ℕ) (g : B → ℕ) (P : A → Type 0) (Q : B → Type 0) (C : B → Type 0) (same : (a : A) (b : B) → f a ≡ g b → P a → Q b → C b) where
  -- of lists of which one has the last numbers of the other
  last_ones : (xs : List A) (ys : List B) (more : List ℕ) → map f xs ≡ more ++ map g ys → All P xs → All Q ys → All C ys
  last_ones xs [] more e ps qs = All-nil C
  last_ones [] (y ∷ ys) [] e ps qs = absurd cc
  last_ones (x ∷ xs) (y ∷ ys) [] e ps qs =
      let here : f x ≡ g y = cc in
      let rest : map f xs ≡ map g ys = cc in
      All-cons C y ys (same x y here (All-head P x xs ps) (All-head Q y ys qs)) (last_ones xs ys [] rest (All-tail P x xs ps) (All-tail Q y ys qs))
  last_ones [] (y ∷ ys) (m ∷ more) e ps qs = absurd cc
  last_ones (x ∷ xs) (y ∷ ys) (m ∷ more) e ps qs =
      let rest : map f xs ≡ more ++ map g (y ∷ ys) = cc in
      last_ones xs (y ∷ ys) more rest (All-tail P x xs ps) qs

all_both : {A : Type 0} (P Q : A → Type 0) (xs : List A) → All P xs → All Q xs → All (λ x. P x × Q x) xs
all_both P Q xs ps qs = λ k d within. (ps k d within, qs k d within)

module _ (l : Ledger) (subtask : ℕ) (sink : Sinking) (s : SinkIn l subtask sink) (P : ℕ → Type 0) where
  -- what holds of the checkpoints of those holds of the checkpoints of these
  pub pre_committed_all : All (λ p. P p.checkpoint) sink.pending → All (λ q. P q.checkpoint) (share l subtask).pre_committed
  pre_committed_all all =
      let pre = (share l subtask).pre_committed in
      let front = (s.last).0 in
      let more = ((s.last).2).0 in
      let names : List ℕ = map (λ (p : Pending). p.transaction) sink.pending in
      let split : numbers_of (share l subtask).committed ++ numbers_of (transactions_of pre) ≡ front ++ names =
      sym (map-append (λ (x : durable.Transaction (List ℕ)). x.number) (share l subtask).committed (transactions_of pre)) ∙ (s.last).1 in
      let ends : more ++ numbers_of (transactions_of pre) ≡ names =
      append_cancel_left front (more ++ numbers_of (transactions_of pre)) names
      (sym (append_assoc front more (numbers_of (transactions_of pre))) ∙ ap (λ (c : List ℕ). c ++ numbers_of (transactions_of pre)) (sym ((s.last).2).1) ∙ split) in
      last_ones (λ (p : Pending). p.transaction) (λ (q : durable.PreCommitted (List ℕ)). (q.transaction).number) (λ p. PendingIs l subtask p × P p.checkpoint) (λ q. Stands l subtask (PreCommitted q.checkpoint) (q.transaction).number) (λ q. P q.checkpoint)
      (λ p q e pending stands. one_is p q e pending.0 pending.1 stands) sink.pending pre more (sym ends ∙ ap (λ (x : List ℕ). more ++ x) (numbers_pre pre)) (all_both (PendingIs l subtask) (λ p. P p.checkpoint) sink.pending s.pending_are all) (pre_stand l subtask)
    where
      one_is : (p : Pending) (q : durable.PreCommitted (List ℕ)) → p.transaction ≡ (q.transaction).number → PendingIs l subtask p → P p.checkpoint → Stands l subtask (PreCommitted q.checkpoint) (q.transaction).number → P q.checkpoint
      one_is p q e pending holds stands =
          let t = pending.0 in
          let same : t ≡ stands.0 = same_at l p.transaction t stands.0 pending.1 (ap (transaction_at l) e ∙ stands.1) in
          let stage : t.progress ≡ PreCommitted q.checkpoint = ap (λ (u : Transaction). u.progress) same ∙ stands.3 in
          elim pending.3 [
            | inl is ↦ subst P (same_checkpoint p.checkpoint q.checkpoint (sym is ∙ stage)) holds
            | inr is ↦ absurd (pre_not_committed q.checkpoint (sym stage ∙ is))
          ]

module _ {R K S O : Type 0} (rules : AllRules R K S O) (s : State O R K S) (keeps : Keeps rules s) (fresh : s.is_fresh ≡ true) (h : Held R K S) (was : s.held ≡ Some h)
    (task subtask : ℕ) (is : slice_get s.graph.tasks task ≡ Some (role.Sink subtask)) (sink : Sinking) (at : slice_get h.tasks task ≡ Some (holds.Sink sink)) where
  -- as many committed transactions as complete checkpoints, if the checkpoint of none that is pending is complete
  pub committed_for_each : All (λ p. is_complete s.stored p.checkpoint ≡ false) sink.pending → length (share s.ledger subtask).committed ≡ length (line_of s.stored)
  committed_for_each none =
      let in_ledger = (runs_of rules s keeps h was).sinks task subtask sink is at in
      let off : All (λ (q : durable.PreCommitted (List ℕ)). is_on (line_of s.stored) q.checkpoint ≡ false) (share s.ledger subtask).pre_committed =
      pre_committed_all s.ledger subtask sink in_ledger (λ c. is_on (line_of s.stored) c ≡ false) (All-weaker (λ (p : Pending). is_complete s.stored p.checkpoint ≡ false) (λ p. is_on (line_of s.stored) p.checkpoint ≡ false) (λ p e. is_on-line_of s.stored p.checkpoint keeps.numbered ∙ e) sink.pending none) in
      let Exact : Option Role → Type 0 = λ r. All (λ q. is_on (line_of s.stored) q.checkpoint ≡ false) (transactions_at s.ledger r).pre_committed → length (transactions_at s.ledger r).committed ≡ length (line_of s.stored) in
      let here : Exact (slice_get s.graph.tasks task) =
      pruned_up_to_last (job_of rules.lang s) rules.lang.spelling (is_logged_in s) (pruned_engine (engine_of rules.lang s)) task (keeps.fresh fresh) (tasks-graph_of s.graph s.operators task ∙ ap (option_map (task_of s.operators)) is) in
      subst Exact is here off

  -- so where the sink has none pending
  pub committed_all : sink.pending ≡ [] → length (share s.ledger subtask).committed ≡ length (line_of s.stored)
  committed_all none = committed_for_each (subst (All (λ (p : Pending). is_complete s.stored p.checkpoint ≡ false)) (sym none) (All-nil (λ (p : Pending). is_complete s.stored p.checkpoint ≡ false)))

  -- The sink has none pending that could be committed, and no checkpoint is pending, or the sink has not copied for it.
  pub none_pending : NoneIsNext task h → (h.coordination.pending ≡ None) ⊎ (copy_at h task ≡ None) → sink.pending ≡ []
  none_pending none quiet = of sink.pending refl
    where
      of : (pending : List Pending) → sink.pending ≡ pending → sink.pending ≡ []
      of [] e = e
      of (p ∷ rest) e = absurd (none sink p (record { was = at; oldest = ap (λ (l : List Pending). slice_get l 0) e; complete = not_pending }))
        where
          not_less : (m : ℕ) → m < m → ⊥
          not_less m less = omega (arith, less)

          complete_then : is_complete s.stored p.checkpoint ≡ true → h.coordination.pending ≡ Some p.checkpoint → ⊥
          complete_then complete pending = not_less p.checkpoint ((runs_pending rules.lang s h (runs_of rules s keeps h was) p.checkpoint pending).above p.checkpoint complete)

          not_pending : h.coordination.pending ≡ Some p.checkpoint → ⊥
          not_pending pending =
              elim quiet [
                | inl idle ↦ none-some p.checkpoint (sym idle ∙ pending)
                | inr uncopied ↦
                    let P : Pending → Type 0 = λ q. is_complete s.stored q.checkpoint ≡ true in
                    complete_then (All-head P p rest (subst (All P) e ((runs_of rules s keeps h was).copied_last task p.checkpoint sink at pending uncopied))) pending
              ]

  pub committed_up_to_last : NoneIsNext task h → (h.coordination.pending ≡ None) ⊎ (copy_at h task ≡ None) → length (share s.ledger subtask).committed ≡ length (line_of s.stored)
  committed_up_to_last none quiet = committed_all (none_pending none quiet)

  -- Where the sink has none left to commit, the checkpoint of none that is pending is complete.
  none_complete : NoneIsNext task h → All (λ p. is_complete s.stored p.checkpoint ≡ false) sink.pending
  none_complete none = of sink.pending h.coordination.pending refl refl
    where
      runs : RunsIn rules.lang s h
      runs = runs_of rules s keeps h was

      P : Pending → Type 0
      P p = is_complete s.stored p.checkpoint ≡ false

      oldest_is_next : (p : Pending) (rest : List Pending) → sink.pending ≡ p ∷ rest → (h.coordination.pending ≡ Some p.checkpoint → ⊥) → ⊥
      oldest_is_next p rest e apart = none sink p (record { was = at; oldest = ap (λ (l : List Pending). slice_get l 0) e; complete = apart })

      of : (pending : List Pending) (checkpoint : Option ℕ) → sink.pending ≡ pending → h.coordination.pending ≡ checkpoint → All P sink.pending
      of [] checkpoint e is = subst (All P) (sym e) (All-nil P)
      of (p ∷ rest) None e is = absurd (oldest_is_next p rest e (λ same. none-some p.checkpoint (sym is ∙ same)))
      of (p ∷ rest) (Some number) e is =
          elim (eqb_tells number p.checkpoint) [
            | inl same ↦
                let now : h.coordination.pending ≡ Some p.checkpoint = is ∙ ap (λ (n : ℕ). Some n) same.1 in
                let alone : rest ≡ [] = only_one h.coordination.pending p rest (subst (NoneAfter h.coordination.pending) e (runs.last_pending task sink at)) now in
                let incomplete : P p = pending_incomplete rules.lang s.graph s.stored h p.checkpoint (runs_pending rules.lang s h runs p.checkpoint now) in
                subst (All P) (sym (e ∙ ap (λ (l : List Pending). p ∷ l) alone)) (All-cons P p [] incomplete (All-nil P))
            | inr apart ↦ absurd (oldest_is_next p rest e (λ same. apart.1 (same_Some number p.checkpoint (sym is ∙ same))))
          ]

  -- so it has committed once for each complete checkpoint, whatever is pending
  pub committed_each : NoneIsNext task h → length (share s.ledger subtask).committed ≡ length (line_of s.stored)
  committed_each none = committed_for_each (none_complete none)

module _ {R K S O : Type 0} (rules : AllRules R K S O) (s : State O R K S) (keeps : Keeps rules s) (fresh : s.is_fresh ≡ true) (h : Held R K S) (was : s.held ≡ Some h)
    (subtask : ℕ) (k : Held R K S) (ledger : Ledger) where
  -- so has a commit that is answered Ok
  pub commits_reach : (u : Unit {0}) → EndsCommit s.graph subtask h k s.ledger ledger (Ok u) → length (committed_of ledger subtask) ≡ length (complete_numbers s.stored)
  commits_reach u ends =
      let after : State O R K S = record s { held = Some k; ledger = ledger; faults = 0 } in
      let kept : Keeps rules after = (keeps_commit rules s keeps h was subtask k ledger 0 (Ok u) ends).0 in
      let form = (shape_of rules after kept k refl).forms ends.0 (role.Sink subtask) ends.1 in
      sym (count_in ledger subtask kept.ordered) ∙ committed_each rules after kept fresh k refl ends.0 subtask ends.1 form.0 form.1 (ends.2).none_next
