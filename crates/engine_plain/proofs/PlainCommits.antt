-- Commits leave the plain configuration as it is.
use Rattle.std.proofs.Common.{◌≡◌, ◌⊎◌, inl, inr, Option, Some, Result, Ok, Err, slice_get, slice_set, drop, ℕ, true, List, [], ◌∷◌, refl, sym, ap, ◌∙◌}
use Rattle.std.proofs.lemmas.Bool.Decides.{eqb_tells}
use Rattle.std.proofs.lemmas.List.Elements.{All-head, All-same}
use Rattle.std.proofs.lemmas.Option.{slice_get_within}
use Rattle.checkpoint_model.specs.PrunedLaws.{all_records}
use Rattle.checkpoint_model.proofs.PrunedSinks.{committed_records}
use Rattle.checkpoint_model.proofs.Plain.{same_configuration}
use Rattle.commit_sink.specs.Ledger.{Ledger, after_commit}
use Rattle.commit_sink.specs.Sink.{Sinking}
use Rattle.commit_sink.specs.declared.sink.Pending.{Pending}
use Rattle.dataflow_model.specs.Machine.{TaskState}
use Rattle.job_graph.specs.declared.role.Role.TheVariants as role
use Rattle.job_state.specs.Held.{Held, oldest_forgotten}
use Rattle.job_state.specs.declared.holding.Holding.{Holding}
use Rattle.job_state.specs.declared.holding.Holding.TheVariants as holds
use Rattle.snapshot_store.specs.Store.{is_complete}
use Rattle.engine_model.specs.AllRules.{AllRules}
use Rattle.engine_model.specs.Calls.{left_by}
use Rattle.engine_model.specs.Commits.{IsNext, CommitsOne, FailsToCommit, CommitsEach, EndsCommit}
use Rattle.engine_model.specs.Keeps.{Keeps}
use Rattle.engine_model.specs.State.{State}
use Rattle.engine_model.specs.View.{held_state}
use Rattle.engine_model.specs.declared.fault.CoreFault.{CoreFault}
use Rattle.engine_model.specs.declared.fault.CoreFault.TheVariants.{NoSuchTask, CommitFault}
use Rattle.engine_model.proofs.Calls.Commits.{keeps_round, keeps_each}
use Rattle.engine_model.proofs.Calls.Goes.{after, runs_of}
use Rattle.engine_model.proofs.Ledger.Commit.{CommitsFirst, commit_in}
use Rattle.engine_model.proofs.Ledger.Shares.{share}
use Rattle.engine_model.proofs.Ledger.Sinks.{first_is}
use Rattle.engine_model.proofs.Lists.{get_set_same, get_set_other}
use Rattle.engine_model.proofs.Store.View.{line_of, is_on-line_of}
use Rattle.engine_plain.specs.Plain.{Stays}
use Rattle.engine_plain.proofs.Stands.{bare_of, SameRecords, same_ledger, same_records, stays_by, stays_refused}

module _ {R K S O : Type 0} (rules : AllRules R K S O) (task subtask n : ℕ) where
  module _ (s : State O R K S) (h : Held R K S) (keeps : Keeps rules s) (was : s.held ≡ Some h) (is : slice_get s.graph.tasks task ≡ Some (role.Sink subtask)) (ledger : Ledger) where
    module _ (sink : Sinking) (p : Pending) (next : IsNext task h sink p) where
      complete : is_complete s.stored p.checkpoint ≡ true
      complete =
          let Q : Pending → Type 0 = λ q. (is_complete s.stored q.checkpoint ≡ true) ⊎ (h.coordination.pending ≡ Some q.checkpoint) in
          let runs = runs_of rules s keeps h was in
          elim (All-head Q p (drop 1 sink.pending) (All-same Q (p ∷ drop 1 sink.pending) sink.pending (sym (first_is sink.pending p next.oldest)) (runs.checkpoints task sink next.was))) [
            | inl e ↦ e
            | inr e ↦ absurd (next.complete e)
          ]

      -- the first of the pre-committed comes to be the last of the committed
      committed_stay : ledger ≡ after_commit s.ledger p.transaction → SameRecords rules.lang s ledger
      committed_stay e =
          let line = line_of s.stored in
          let sink_in = (runs_of rules s keeps h was).sinks task subtask sink is next.was in
          let first : CommitsFirst line subtask sink s.ledger ledger = commit_in s.ledger ledger subtask sink p line keeps.ordered sink_in next.oldest (is_on-line_of s.stored p.checkpoint keeps.numbered ∙ complete) e in
          same_records rules.lang s keeps.expanded task subtask is ledger
          (elim first.call [
            | inl same ↦ ap (λ (l : Ledger). all_records (share l subtask)) same
            | inr c ↦ committed_records line (share s.ledger subtask) (share ledger subtask) c.0 c.1
          ])
          first.others

      -- of a sink's transactions the model's attempt holds nothing
      forgotten_state : (t : ℕ) → held_state {R = R} rules.lang.cmp (slice_get (oldest_forgotten task sink h).tasks t) ≡ held_state rules.lang.cmp (slice_get h.tasks t)
      forgotten_state t =
          let less : Holding K S = holds.Sink (record sink { pending = drop 1 sink.pending }) in
          let state : Option (Holding K S) → TaskState R K S = held_state rules.lang.cmp in
          elim (eqb_tells t task) [
            | inl same ↦
                ap (λ m. state (slice_get (slice_set h.tasks task less) m)) same.1 ∙ ap state (get_set_same h.tasks task less (slice_get_within h.tasks task (holds.Sink sink) next.was))
                ∙ sym (ap state next.was) ∙ sym (ap (λ m. state (slice_get h.tasks m)) same.1)
            | inr apart ↦ ap state (get_set_other h.tasks task t less apart.1)
          ]

      forgotten_stays : bare_of rules.lang s (oldest_forgotten task sink h) ≡ bare_of rules.lang s h
      forgotten_stays = same_configuration (bare_of rules.lang s (oldest_forgotten task sink h)) (bare_of rules.lang s h) forgotten_state (λ c. refl)

    round_stays : (k : Held R K S) → CommitsOne task h s.ledger k ledger → Stays rules.lang s (after s (Some k) s.stored ledger n)
    round_stays k c =
        stays_by rules.lang s h was k s.stored ledger n (ap (bare_of rules.lang s) c.ends ∙ forgotten_stays c.sink c.next c.is_next) (committed_stay c.sink c.next c.is_next c.commits)

    failure_stays : (k : Held R K S) → FailsToCommit task h s.ledger k ledger → Stays rules.lang s (after s (Some k) s.stored ledger n)
    failure_stays k c =
        stays_by rules.lang s h was k s.stored ledger n (ap (bare_of rules.lang s) c.ends)
        (elim c.either [
          | inl same ↦ same_ledger rules.lang s ledger same
          | inr done ↦ committed_stay c.sink c.next c.is_next done
        ])

  rounds_stay : (rounds : List (Held R K S × Ledger)) (s : State O R K S) (h : Held R K S) → Keeps rules s → s.held ≡ Some h → slice_get s.graph.tasks task ≡ Some (role.Sink subtask)
      → (k : Held R K S) (ledger : Ledger) → CommitsEach task h s.ledger rounds k ledger → Stays rules.lang s (after s (Some k) s.stored ledger n)
  rounds_stay [] s h keeps was is k ledger c = stays_refused rules.lang s h was k s.stored ledger n c.0 c.1
  rounds_stay (next ∷ rest) s h keeps was is k ledger c =
      let kept = keeps_round rules task subtask n s keeps h was is next.0 next.1 c.0 in
      λ at stands. rounds_stay rest (after s (Some next.0) s.stored next.1 n) next.0 kept.0 refl is k ledger c.1 at (round_stays s h keeps was is next.1 next.0 c.0 at stands)

module _ {R K S O : Type 0} (rules : AllRules R K S O) (s : State O R K S) (h k : Held R K S) (n subtask : ℕ) (ledger : Ledger) (keeps : Keeps rules s) (was : s.held ≡ Some h) where
  pub plain_commit : (result : Result Unit CoreFault) → EndsCommit s.graph subtask h k s.ledger ledger result → Stays rules.lang s (record s { held = left_by result (Some k); ledger = ledger; faults = n })
  plain_commit (Ok u) ends = rounds_stay rules ends.0 subtask n (ends.2).rounds s h keeps was ends.1 k ledger (ends.2).each
  plain_commit (Err NoSuchTask) ends = stays_refused rules.lang s h was k s.stored ledger n ends.1 ends.2
  plain_commit (Err CommitFault) ends =
      let c = ends.2 in
      let middle = c.middle in
      let kept = keeps_each rules ends.0 subtask n c.rounds s h keeps was ends.1 middle.0 middle.1 c.each in
      λ at stands.
      failure_stays rules ends.0 subtask n (after s (Some middle.0) s.stored middle.1 n) middle.0 kept.0 refl ends.1 ledger k c.fails at
      (rounds_stay rules ends.0 subtask n c.rounds s h keeps was ends.1 middle.0 middle.1 c.each at stands)
  plain_commit (Err other) ends = absurd ends
