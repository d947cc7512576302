-- What a running engine's data stand for, by what the job holds and by the records in its transactions.
use Rattle.std.proofs.Common.{◌≡◌, inl, inr, MatchOption, Option, Some, None, slice_get, ℕ, List, sym, ap, subst, ◌∙◌}
use Rattle.std.proofs.lemmas.Option.{MatchOption-at_some}
use Rattle.std.proofs.lemmas.Bool.Decides.{eqb_tells}
use Rattle.checkpoint_model.specs.Attempt.{bare}
use Rattle.checkpoint_model.specs.Durable.{IsSink}
use Rattle.checkpoint_model.specs.Engine.{Running}
use Rattle.checkpoint_model.specs.EngineLaws.{EngineMoves}
use Rattle.checkpoint_model.specs.Pruned.{pruned_run}
use Rattle.checkpoint_model.specs.PrunedLaws.{HasOneOpen, all_records, IsBare}
use Rattle.checkpoint_model.proofs.PrunedPlain.{bare_of_pruned, plain_moves}
use Rattle.commit_sink.specs.Ledger.{Ledger}
use Rattle.dataflow_model.specs.Machine.{Configuration, Move, mover}
use Rattle.job_graph.specs.Expanded.{IsExpanded}
use Rattle.job_graph.specs.declared.role.Role.{Role}
use Rattle.job_graph.specs.declared.role.Role.TheVariants as role
use Rattle.job_state.specs.Held.{Held}
use Rattle.snapshot_store.specs.Store.{Stored}
use Rattle.engine_model.specs.Language.{Language}
use Rattle.engine_model.specs.State.{State}
use Rattle.engine_model.specs.View.{attempt_of, run_of, transactions_at, job_of, devices_of}
use Rattle.engine_model.proofs.Calls.Goes.{after}
use Rattle.engine_model.proofs.Calls.Sinks.{others_same}
use Rattle.engine_model.proofs.Ledger.Shares.{share}
use Rattle.engine_plain.specs.Plain.{StandsFor, StepsBy, Stays}

module _ {R K S O : Type 0} (lang : Language R K S O) where
  -- what the job holds stands for this
  abbrev pub HoldsFor : State O R K S → Held R K S → Configuration R K S → Type 0
  HoldsFor new k at = IsBare (job_of lang new) lang.spelling (devices_of lang new) (pruned_run (run_of lang.cmp new.graph k)) at

module _ {R K S O : Type 0} (lang : Language R K S O) (s : State O R K S) where
  -- the plain configuration of what the job holds, but for outputs
  abbrev pub bare_of : Held R K S → Configuration R K S
  bare_of k = bare (attempt_of lang.cmp k)

  -- each sink has the same records in its transactions
  abbrev pub SameRecords : Ledger → Type 0
  SameRecords ledger = (t : ℕ) → all_records (transactions_at ledger (slice_get s.graph.tasks t)) ≡ all_records (transactions_at s.ledger (slice_get s.graph.tasks t))

  pub same_ledger : (ledger : Ledger) → ledger ≡ s.ledger → SameRecords ledger
  same_ledger ledger same t = ap (λ (l : Ledger). all_records (transactions_at l (slice_get s.graph.tasks t))) same

  -- one subtask's transactions have the same records, and the others' are the same
  pub same_records : IsExpanded s.graph → (task subtask : ℕ) → slice_get s.graph.tasks task ≡ Some (role.Sink subtask) → (ledger : Ledger) → all_records (share ledger subtask) ≡ all_records (share s.ledger subtask)
      → ((other : ℕ) → (other ≡ subtask → ⊥) → share ledger other ≡ share s.ledger other) → SameRecords ledger
  same_records expanded task subtask is ledger here others t =
      let Same : Option Role → Type 0 = λ r. all_records (transactions_at ledger r) ≡ all_records (transactions_at s.ledger r) in
      elim (eqb_tells t task) [
        | inl same ↦ subst Same (sym (ap (slice_get s.graph.tasks) same.1 ∙ is)) here
        | inr apart ↦ ap all_records (others_same lang s expanded task subtask is s.ledger ledger others t apart.1)
      ]

  module _ (h : Held R K S) (was : s.held ≡ Some h) where
    pub stands_at : (at : Configuration R K S) → StandsFor lang s at → HoldsFor lang s h at
    stands_at at stands = MatchOption-at_some ⊥ (λ x. HoldsFor lang s x at) h was stands

    module _ (k : Held R K S) (stored : Stored) (ledger : Ledger) (n : ℕ) where
      -- the same holdings, barriers left out, and the same records in transactions
      pub stays_by : bare_of k ≡ bare_of h → SameRecords ledger → Stays lang s (after s (Some k) stored ledger n)
      stays_by same all at stands =
          let b : HoldsFor lang s h at = stands_at at stands in
          let now : HoldsFor lang (after s (Some k) stored ledger n) k at =
          record {
            offsets = λ task. b.offsets task ∙ ap (λ (c : Configuration R K S). (c.tasks task).offset) (sym same);
            states = λ task. b.states task ∙ ap (λ (c : Configuration R K S). (c.tasks task).states) (sym same);
            channels = λ channel. b.channels channel ∙ ap (λ (c : Configuration R K S). c.channels channel) (sym same);
            outputs = λ task sink. b.outputs task sink ∙ sym (all task);
            elsewhere = b.elsewhere;
          } in
          now

      -- a call that is refused
      pub stays_refused : k ≡ h → ledger ≡ s.ledger → Stays lang s (after s (Some k) stored ledger n)
      stays_refused same e = stays_by (ap bare_of same) (same_ledger ledger e)

      -- a move of the model's engine that leads to the same holdings, but for outputs
      pub steps_by : (move : Move) (next : Running R K S) → EngineMoves (job_of lang s) lang.spelling move (devices_of lang s) (devices_of lang (after s (Some k) stored ledger n)) (run_of lang.cmp s.graph h) next
          → (IsSink (job_of lang s) (mover move) → HasOneOpen (transactions_at s.ledger (slice_get s.graph.tasks (mover move))))
          → bare (pruned_run next).attempt ≡ bare (pruned_run (run_of lang.cmp s.graph k)).attempt → StepsBy lang move s (after s (Some k) stored ledger n)
      steps_by move next moves one same at stands =
          let job = job_of lang s in
          let new = devices_of lang (after s (Some k) stored ledger n) in
          let run = run_of lang.cmp s.graph h in
          let d = plain_moves job lang.spelling move (devices_of lang s) new run next at moves one (bare_of_pruned job lang.spelling (devices_of lang s) run at (stands_at at stands)) in
          let b : IsBare job lang.spelling new (pruned_run next) d.0 = d.2 in
          let now : HoldsFor lang (after s (Some k) stored ledger n) k d.0 =
          record {
            offsets = λ task. b.offsets task ∙ ap (λ (c : Configuration R K S). (c.tasks task).offset) same;
            states = λ task. b.states task ∙ ap (λ (c : Configuration R K S). (c.tasks task).states) same;
            channels = λ channel. b.channels channel ∙ ap (λ (c : Configuration R K S). c.channels channel) same;
            outputs = b.outputs;
            elsewhere = b.elsewhere;
          } in
          (d.0, d.1, now)

  -- the partitions and the devices' faults are not in the plain configuration
  pub stays_alone : (partitions : List (List R)) (n : ℕ) → Stays lang s (record s { partitions = partitions; faults = n })
  stays_alone partitions n at stands = of s.held stands
    where
      of : (o : Option (Held R K S)) → MatchOption o ⊥ (λ k. HoldsFor lang s k at) → MatchOption o (Unit {0}) (λ h. MatchOption o ⊥ (λ k. HoldsFor lang (record s { partitions = partitions; faults = n }) k at))
      of None b = tt
      of (Some k) b = record { offsets = b.offsets; states = b.states; channels = b.channels; outputs = b.outputs; elsewhere = b.elsewhere }

  -- the state is the same
  pub stays_same : (new : State O R K S) → new ≡ s → Stays lang s new
  stays_same new same = subst (λ (x : State O R K S). Stays lang s x) (sym same) (stays_alone s.partitions s.faults)

  -- the job is down
  pub stays_down : (new : State O R K S) → new.held ≡ None → Stays lang s new
  stays_down new down at stands = subst (λ (o : Option (Held R K S)). MatchOption o (Unit {0}) (λ h. StandsFor lang new at)) (sym down) tt
