-- A sink's pending transactions are committed, as a call of the engine.
use Rattle.std.proofs.Common.{◌≡◌, ◌⊎◌, inl, inr, All, MatchOption, Option, Some, None, Result, Ok, Err, slice_get, slice_set, drop, ℕ, true, List, [], ◌∷◌, option_map, refl, sym, ap, subst, ◌∙◌}
use Rattle.std.proofs.lemmas.Bool.Decides.{eqb_tells}
use Rattle.std.proofs.lemmas.List.Elements.{All-head, All-same, All-drop}
use Rattle.std.proofs.lemmas.Option.{same_Some, slice_get_within}
use mathlib.Core.Path.{fun_ext}
use Rattle.checkpoint_model.specs.Durable.{Commits}
use Rattle.checkpoint_model.specs.Engine.{Running}
use Rattle.checkpoint_model.specs.Headline.{CommitsATransaction}
use Rattle.checkpoint_model.specs.Pruned.{pruned_run}
use Rattle.commit_sink.specs.Ledger.{Ledger, IsOrdered, after_commit}
use Rattle.commit_sink.specs.Sink.{Sinking}
use Rattle.commit_sink.specs.declared.sink.Pending.{Pending}
use Rattle.dataflow_model.specs.Machine.{TaskState}
use Rattle.job_graph.specs.declared.role.Role.{Role}
use Rattle.job_graph.specs.declared.role.Role.TheVariants as role
use Rattle.job_state.specs.Held.{Held, copy_at, oldest_forgotten}
use Rattle.job_state.specs.declared.holding.Holding.{Holding}
use Rattle.job_state.specs.declared.holding.Holding.TheVariants as holds
use Rattle.snapshot_store.specs.Store.{is_complete}
use Rattle.engine_model.specs.AllRules.{AllRules}
use Rattle.engine_model.specs.State.{State}
use Rattle.engine_model.specs.View.{held_state, run_of, transactions_at, devices_of}
use Rattle.engine_model.specs.Keeps.{SinkIn, PendingIn, Shape, NoneAfter, RunsIn, Keeps}
use Rattle.engine_model.specs.Calls.{left_by}
use Rattle.engine_model.specs.Commits.{IsNext, CommitsOne, FailsToCommit, CommitsEach, EndsCommit}
use Rattle.engine_model.specs.Goes.{Goes}
use Rattle.engine_model.specs.declared.fault.CoreFault.{CoreFault}
use Rattle.engine_model.specs.declared.fault.CoreFault.TheVariants.{NoSuchTask, CommitFault}
use Rattle.engine_model.proofs.Lists.{get_set_same, get_set_other}
use Rattle.engine_model.proofs.Shape.ShapesKept.{shape_forgotten}
use Rattle.engine_model.proofs.Store.View.{line_of, is_on-line_of}
use Rattle.engine_model.proofs.Store.Runs.{pending_moved}
use Rattle.engine_model.proofs.Ledger.LastPending.{none_after_drop}
use Rattle.engine_model.proofs.Ledger.Shares.{share}
use Rattle.engine_model.proofs.Ledger.Sinks.{first_is, first_pending}
use Rattle.engine_model.proofs.Ledger.Calls.{commit_now, commit_stays}
use Rattle.engine_model.proofs.Ledger.Commit.{CommitsFirst, commit_in}
use Rattle.engine_model.proofs.Ledger.Ordered.{ordered_committed}
use Rattle.engine_model.proofs.Calls.Tasks.{one_subtask}
use Rattle.engine_model.proofs.Calls.Goes.{after, goes_nowhere, goes_by, goes_on, goes_keeps, shape_of, runs_of, KeepsAndGoes, keeps_refused}

same_sink : {K S : Type 0} (x y : Sinking) → ◌≡◌ {A = Holding K S} (holds.Sink x) (holds.Sink y) → x ≡ y
same_sink x y e = cc

same_subtask : (a b : ℕ) → role.Sink a ≡ role.Sink b → a ≡ b
same_subtask a b e = cc

-- ---- what a commit leaves of a ledger

module _ (l : Ledger) (subtask : ℕ) (sink : Sinking) (p : Pending) (s : SinkIn l subtask sink) (oldest : slice_get sink.pending 0 ≡ Some p) where
  subtasks_stay : (after_commit l p.transaction).subtasks ≡ l.subtasks
  subtasks_stay =
      let i = first_pending l subtask sink p s oldest in
      elim i.3 [
        | inl is ↦ ap (λ (x : Ledger). x.subtasks) (commit_now l p.transaction i.0 i.1 p.checkpoint is)
        | inr is ↦ ap (λ (x : Ledger). x.subtasks) (commit_stays l p.transaction i.0 i.1 is)
      ]

  stays_ordered : IsOrdered l → IsOrdered (after_commit l p.transaction)
  stays_ordered ordered =
      let i = first_pending l subtask sink p s oldest in
      elim i.3 [
        | inl is ↦ subst IsOrdered (sym (commit_now l p.transaction i.0 i.1 p.checkpoint is)) (ordered_committed l p.transaction i.0 i.1 p.checkpoint is ordered)
        | inr is ↦ subst IsOrdered (sym (commit_stays l p.transaction i.0 i.1 is)) ordered
      ]

-- ---- one transaction

module _ {R K S O : Type 0} (rules : AllRules R K S O) (task subtask n : ℕ) where
  module _ (s : State O R K S) (keeps : Keeps rules s) (h : Held R K S) (was : s.held ≡ Some h) (is : slice_get s.graph.tasks task ≡ Some (role.Sink subtask)) (sink : Sinking) (p : Pending) (next : IsNext task h sink p) where
    abbrev runs : RunsIn rules.lang s h
    runs = runs_of rules s keeps h was

    abbrev ledger : Ledger
    ledger = after_commit s.ledger p.transaction

    sink_in : SinkIn s.ledger subtask sink
    sink_in = runs.sinks task subtask sink is next.was

    complete : is_complete s.stored p.checkpoint ≡ true
    complete =
        let P : Pending → Type 0 = λ q. (is_complete s.stored q.checkpoint ≡ true) ⊎ (h.coordination.pending ≡ Some q.checkpoint) in
        elim (All-head P p (drop 1 sink.pending) (All-same P (p ∷ drop 1 sink.pending) sink.pending (sym (first_is sink.pending p next.oldest)) (runs.checkpoints task sink next.was))) [
          | inl e ↦ e
          | inr e ↦ absurd (next.complete e)
        ]

    first : CommitsFirst (line_of s.stored) subtask sink s.ledger ledger
    first = commit_in s.ledger ledger subtask sink p (line_of s.stored) keeps.ordered sink_in next.oldest (is_on-line_of s.stored p.checkpoint keeps.numbered ∙ complete) refl

    -- no other task has this subtask
    elsewhere_of : (t other : ℕ) → (t ≡ task → ⊥) → slice_get s.graph.tasks t ≡ Some (role.Sink other) → other ≡ subtask → ⊥
    elsewhere_of t other apart at same = apart (one_subtask s.graph keeps.expanded t task subtask (at ∙ ap (λ m. Some (role.Sink m)) same) is)

    other_shares : (t : ℕ) → (t ≡ task → ⊥) → transactions_at ledger (slice_get s.graph.tasks t) ≡ transactions_at s.ledger (slice_get s.graph.tasks t)
    other_shares t apart = of (slice_get s.graph.tasks t) refl
      where
        of : (o : Option Role) → slice_get s.graph.tasks t ≡ o → transactions_at ledger o ≡ transactions_at s.ledger o
        of None e = refl
        of (Some (role.Source partition)) e = refl
        of (Some (role.Operator number)) e = refl
        of (Some (role.Sink other)) e = first.others other (elsewhere_of t other apart e)

    -- The sink holds this now: what it held, or all but the oldest of its pending ones.
    module _ (tasks : List (Holding K S)) (sink' : Sinking) (there : slice_get tasks task ≡ Some (holds.Sink sink')) (elsewhere : (t : ℕ) → (t ≡ task → ⊥) → slice_get tasks t ≡ slice_get h.tasks t)
        (in_ledger : SinkIn ledger subtask sink') (fewer : (P : Pending → Type 0) → All P sink.pending → All P sink'.pending)
        (last_stays : (checkpoint : Option ℕ) → NoneAfter checkpoint sink.pending → NoneAfter checkpoint sink'.pending) where
      abbrev k : Held R K S
      k = record h { tasks = tasks }

      same_tasks : (t : ℕ) → held_state {R = R} rules.lang.cmp (slice_get tasks t) ≡ held_state rules.lang.cmp (slice_get h.tasks t)
      same_tasks t =
          elim (eqb_tells t task) [
            | inl same ↦ ap (λ m. held_state rules.lang.cmp (slice_get tasks m)) same.1 ∙ ap (held_state rules.lang.cmp) there ∙ sym (ap (held_state rules.lang.cmp) next.was) ∙ sym (ap (λ m. held_state rules.lang.cmp (slice_get h.tasks m)) same.1)
            | inr apart ↦ ap (held_state rules.lang.cmp) (elsewhere t apart.1)
          ]

      -- the model's attempt holds nothing of a sink's transactions
      same_run : run_of rules.lang.cmp s.graph k ≡ run_of rules.lang.cmp s.graph h
      same_run = ap (λ (f : ℕ → TaskState R K S). let run = run_of rules.lang.cmp s.graph h in record { attempt = record run.attempt { tasks = f }; number = run.number; named = run.named }) (fun_ext same_tasks)

      goes_committed : Goes rules.lang s (after s (Some k) s.stored ledger n)
      goes_committed = of first.call
        where
          of : (ledger ≡ s.ledger) ⊎ ((c : Commits (line_of s.stored) (share s.ledger subtask) (share ledger subtask)) × (c.front ≡ [])) → Goes rules.lang s (after s (Some k) s.stored ledger n)
          of (inl same) =
              goes_nowhere rules.lang s (after s (Some k) s.stored ledger n)
              (λ i. record { devices = devices_of rules.lang (record s { ledger = same i }); running = (ap (λ (r : Running R K S). Some r) same_run ∙ sym (ap (option_map (run_of rules.lang.cmp s.graph)) was)) i })
          of (inr commits) =
              let C : Option Role → Type 0 = λ r. (c : Commits (line_of s.stored) (transactions_at s.ledger r) (transactions_at ledger r)) × (c.front ≡ []) in
              let c : C (slice_get s.graph.tasks task) = subst C (sym is) commits in
              goes_by rules.lang s h k s.stored ledger n (run_of rules.lang.cmp s.graph h) was (sym (ap pruned_run same_run))
              (CommitsATransaction task (record {
                commits = record { store = refl; sink = c.0; others = other_shares };
                is_first = c.1;
                ends = refl;
              }))

      -- what the sink holds, by this
      holds_there : (t : ℕ) (now : Sinking) → slice_get tasks t ≡ Some (holds.Sink now) → t ≡ task → now ≡ sink'
      holds_there t now at same = same_sink now sink' (same_Some (holds.Sink now) (holds.Sink sink') (sym at ∙ ap (slice_get tasks) same ∙ there))

      runs_committed : RunsIn rules.lang (after s (Some k) s.stored ledger n) k
      runs_committed = record {
        pending = moved h.coordination.pending runs.pending;
        last_complete = runs.last_complete;
        sinks = λ t other now at held.
            elim (eqb_tells t task) [
              | inl same ↦
                  let number : subtask ≡ other = same_subtask subtask other (same_Some (role.Sink subtask) (role.Sink other) (sym is ∙ sym (ap (slice_get s.graph.tasks) same.1) ∙ at)) in
                  subst (λ m. SinkIn ledger m now) number (subst (SinkIn ledger subtask) (sym (holds_there t now held same.1)) in_ledger)
              | inr apart ↦ first.other_sinks other now (elsewhere_of t other apart.1 at) (runs.sinks t other now at (sym (elsewhere t apart.1) ∙ held))
            ];
        checkpoints = λ t now held. every (λ q. (is_complete s.stored q.checkpoint ≡ true) ⊎ (h.coordination.pending ≡ Some q.checkpoint)) t now held (runs.checkpoints task sink next.was) (λ e. runs.checkpoints t now e);
        copied_last = λ t number now held pending none.
            elim (eqb_tells t task) [
              | inl same ↦
                  let here : All (λ (q : Pending). is_complete s.stored q.checkpoint ≡ true) sink.pending = runs.copied_last task number sink next.was pending (ap (copy_at h) (sym same.1) ∙ none) in
                  subst (λ (x : Sinking). All (λ (q : Pending). is_complete s.stored q.checkpoint ≡ true) x.pending) (sym (holds_there t now held same.1)) (fewer (λ q. is_complete s.stored q.checkpoint ≡ true) here)
              | inr apart ↦ runs.copied_last t number now (sym (elsewhere t apart.1) ∙ held) pending none
            ];
        last_pending = λ t now held.
            elim (eqb_tells t task) [
              | inl same ↦
                  subst (λ (x : Sinking). NoneAfter h.coordination.pending x.pending) (sym (holds_there t now held same.1))
                  (last_stays h.coordination.pending (runs.last_pending task sink next.was))
              | inr apart ↦ runs.last_pending t now (sym (elsewhere t apart.1) ∙ held)
            ];
      }
        where
          moved : (o : Option ℕ) → MatchOption o (Unit {0}) (PendingIn rules.lang s.graph s.stored h) → MatchOption o (Unit {0}) (PendingIn rules.lang s.graph s.stored k)
          moved None m = tt
          moved (Some number) m = pending_moved rules.lang s.graph s.stored h k number m keeps.numbered refl refl (λ t acked. refl)

          every : (P : Pending → Type 0) (t : ℕ) (now : Sinking) → slice_get tasks t ≡ Some (holds.Sink now) → All P sink.pending → (slice_get h.tasks t ≡ Some (holds.Sink now) → All P now.pending) → All P now.pending
          every P t now held here others =
              elim (eqb_tells t task) [
                | inl same ↦ subst (λ (x : Sinking). All P x.pending) (sym (holds_there t now held same.1)) (fewer P here)
                | inr apart ↦ others (sym (elsewhere t apart.1) ∙ held)
              ]

      keeps_committed : Shape rules s.graph s.operators k → KeepsAndGoes rules s (after s (Some k) s.stored ledger n)
      keeps_committed shape =
          goes_keeps rules s keeps (Some k) s.stored ledger n refl keeps.numbered keeps.formed (subtasks_stay s.ledger subtask sink p sink_in next.oldest) (stays_ordered s.ledger subtask sink p sink_in next.oldest keeps.ordered)
          shape runs_committed goes_committed

    -- it is committed, and forgotten
    forgotten : KeepsAndGoes rules s (after s (Some (oldest_forgotten task sink h)) s.stored ledger n)
    forgotten =
        let less : Sinking = record sink { pending = drop 1 sink.pending } in
        let shape = shape_of rules s keeps h was in
        keeps_committed (slice_set h.tasks task (holds.Sink less)) less (get_set_same h.tasks task (holds.Sink less) (slice_get_within h.tasks task (holds.Sink sink) next.was)) (λ t apart. get_set_other h.tasks task t (holds.Sink less) apart)
        first.sink_in (λ P all. All-drop P 1 sink.pending all) (λ checkpoint last. none_after_drop checkpoint sink.pending last)
        (shape_forgotten rules s.graph s.operators h shape task subtask sink is)

    -- it is committed, and the call is answered as failed
    still_pending : KeepsAndGoes rules s (after s (Some h) s.stored ledger n)
    still_pending = keeps_committed h.tasks sink next.was (λ t apart. refl) first.sink_still (λ P all. all) (λ checkpoint last. last) (shape_of rules s keeps h was)

  -- ---- rounds of the call

  module _ (s : State O R K S) (keeps : Keeps rules s) (h : Held R K S) (was : s.held ≡ Some h) (is : slice_get s.graph.tasks task ≡ Some (role.Sink subtask)) where
    pub keeps_round : (k : Held R K S) (ledger : Ledger) → CommitsOne task h s.ledger k ledger → KeepsAndGoes rules s (after s (Some k) s.stored ledger n)
    keeps_round k ledger c =
        subst (λ (x : Held R K S). KeepsAndGoes rules s (after s (Some x) s.stored ledger n)) (sym c.ends)
        (subst (λ (l : Ledger). KeepsAndGoes rules s (after s (Some (oldest_forgotten task c.sink h)) s.stored l n)) (sym c.commits)
        (forgotten s keeps h was is c.sink c.next c.is_next))

    pub keeps_failed : (k : Held R K S) (ledger : Ledger) → FailsToCommit task h s.ledger k ledger → KeepsAndGoes rules s (after s (Some k) s.stored ledger n)
    keeps_failed k ledger c =
        elim c.either [
          | inl same ↦ keeps_refused rules s keeps h k s.stored ledger n was c.ends refl same
          | inr done ↦
              subst (λ (x : Held R K S). KeepsAndGoes rules s (after s (Some x) s.stored ledger n)) (sym c.ends)
              (subst (λ (l : Ledger). KeepsAndGoes rules s (after s (Some h) s.stored l n)) (sym done)
              (still_pending s keeps h was is c.sink c.next c.is_next))
        ]

    -- one call, and then another
    keeps_then : (k : Held R K S) (ledger : Ledger) (new : State O R K S) → KeepsAndGoes rules s (after s (Some k) s.stored ledger n)
        → (Keeps rules (after s (Some k) s.stored ledger n) → KeepsAndGoes rules (after s (Some k) s.stored ledger n) new)
        → KeepsAndGoes rules s new
    keeps_then k ledger new one more = let then = more one.0 in (then.0, goes_on rules.lang s (Some k) s.stored ledger n new one.1 then.1)

  pub keeps_each : (rounds : List (Held R K S × Ledger)) (s : State O R K S) (h : Held R K S) → Keeps rules s → s.held ≡ Some h → slice_get s.graph.tasks task ≡ Some (role.Sink subtask)
      → (k : Held R K S) (ledger : Ledger) → CommitsEach task h s.ledger rounds k ledger → KeepsAndGoes rules s (after s (Some k) s.stored ledger n)
  keeps_each [] s h keeps was is k ledger c = keeps_refused rules s keeps h k s.stored ledger n was c.0 refl c.1
  keeps_each (next ∷ rest) s h keeps was is k ledger c =
      keeps_then s keeps h was is next.0 next.1 (after s (Some k) s.stored ledger n) (keeps_round s keeps h was is next.0 next.1 c.0)
      (λ kept. keeps_each rest (after s (Some next.0) s.stored next.1 n) next.0 kept refl is k ledger c.1)

-- ---- the call

module _ {R K S O : Type 0} (rules : AllRules R K S O) (s : State O R K S) (keeps : Keeps rules s) (h : Held R K S) (was : s.held ≡ Some h) (subtask : ℕ) (k : Held R K S) (ledger : Ledger) (n : ℕ) where
  pub keeps_commit : (result : Result Unit CoreFault) → EndsCommit s.graph subtask h k s.ledger ledger result
      → Keeps rules (record s { held = left_by result (Some k); ledger = ledger; faults = n }) × Goes rules.lang s (record s { held = left_by result (Some k); ledger = ledger; faults = n })
  keeps_commit (Ok u) e = keeps_each rules e.0 subtask n (e.2).rounds s h keeps was e.1 k ledger (e.2).each
  keeps_commit (Err NoSuchTask) e = keeps_refused rules s keeps h k s.stored ledger n was e.1 refl e.2
  keeps_commit (Err CommitFault) e =
      let c = e.2 in
      let middle = c.middle in
      keeps_then rules e.0 subtask n s keeps h was e.1 middle.0 middle.1 (after s (Some k) s.stored ledger n)
      (keeps_each rules e.0 subtask n c.rounds s h keeps was e.1 middle.0 middle.1 c.each)
      (λ kept. keeps_failed rules e.0 subtask n (after s (Some middle.0) s.stored middle.1 n) kept middle.0 refl e.1 k ledger c.fails)
  keeps_commit (Err other) e = absurd e
