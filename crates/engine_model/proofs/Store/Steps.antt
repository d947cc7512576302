-- The calls that change the store are steps of the model's engine.
use Rattle.std.proofs.Common.{◌≡◌, ◌≤◌, ◌&&◌, if◌then◌else◌, Option, Some, None, Ok, is_some, slice_get, unwrap_or, replicate, length, ℕ, zero, suc, Bool, true, false, List, [], refl, sym, ap, subst, ◌∙◌, Ordering}
use Rattle.std.proofs.lemmas.List.{length-map}
use mathlib.Core.Path.{fun_ext}
use Rattle.abs_codec.specs.Reading.{whole_of}
use Rattle.checkpoint_model.specs.Attempt as attempt
use Rattle.checkpoint_model.specs.Durable as durable
use Rattle.checkpoint_model.specs.Durable.{Devices, SinkTransactions, HasParts}
use Rattle.checkpoint_model.specs.Engine.{Running}
use Rattle.checkpoint_model.specs.EngineLaws.{with_attempt, EngineTriggers, EngineDiscards, EnginePersists, EngineCompletes}
use Rattle.checkpoint_model.specs.Pruned.{pruned_run}
use Rattle.checkpoint_model.specs.Seen.{without_output}
use Rattle.checkpoint_model.proofs.Seen.{same_attempt}
use Rattle.coordinator.specs.Coordinator.{IsReady}
use Rattle.dataflow_model.specs.Machine.{fresh_task}
use Rattle.job_graph.specs.Expanded.{Expanded, IsExpanded}
use Rattle.job_graph.specs.PlainGraph.{task_of}
use Rattle.job_graph.specs.declared.role.Role.{Role}
use Rattle.job_graph.specs.declared.role.Role.TheVariants as role
use Rattle.job_state.specs.Held.{Held, copy_at, came_at, logged_at, logs_of, with_logs, with_started, with_acknowledged, with_completed}
use Rattle.job_state.specs.declared.holding.Holding.{Holding}
use Rattle.job_state.specs.declared.holding.Holding.TheVariants as holds
use Rattle.snapshot_store.specs.Store.{Stored, IsNumbered, is_complete, with_part, completed, reserved, discarded_below}
use Rattle.task_part.specs.declared.part.Part.{Part}
use Rattle.task_part.specs.declared.part.Part.TheVariants as part
use Rattle.engine_model.specs.Language.{Language}
use Rattle.engine_model.specs.State.{State}
use Rattle.engine_model.specs.View.{held_state, copied_state, names_in, named_by, part_view, run_of, job_of}
use Rattle.engine_model.specs.Keeps.{CopyAs, PendingIn}
use Rattle.engine_model.proofs.Store.View.{store_of, last_of_line}
use Rattle.engine_model.proofs.Store.Put.{store_put}
use Rattle.engine_model.proofs.Store.Complete.{store_completed, ready_has_parts}
use Rattle.engine_model.proofs.Store.Trigger.{store_reserved, store_discarded}
use Rattle.engine_model.proofs.Store.Logs.{OnlyMarked}
use Rattle.engine_model.proofs.Store.Part.{HaveCome, part_of_copy}

-- ---- what is held of a run

-- each place has the value, and so has what is past the end
same_each : {A : Type 0} (x : A) (n i : ℕ) → unwrap_or (slice_get (replicate n x) i) x ≡ x
same_each x zero i = refl
same_each x (suc n) zero = refl
same_each x (suc n) (suc i) = same_each x n i

module _ {R K S : Type 0} (cmp : K → K → Ordering) where
  -- what is held of a task has no output
  pub bare : (o : Option (Holding K S)) → without_output (held_state {R = R} cmp o) ≡ held_state cmp o
  bare None = refl
  bare (Some (holds.Source offset)) = refl
  bare (Some (holds.Operator entries)) = refl
  bare (Some (holds.Sink sink)) = refl

  bare_copy : (b : Bool) (o : Option (Part R K S)) → b ≡ true → (if b && is_some o then without_output (copied_state cmp o) else fresh_task) ≡ copied_state cmp o
  bare_copy b o e = ap (λ (c : Bool). if c && is_some o then without_output (copied_state cmp o) else fresh_task) e ∙ of o
    where
      of : (o : Option (Part R K S)) → (if true && is_some o then without_output (copied_state cmp o) else fresh_task) ≡ copied_state cmp o
      of None = refl
      of (Some (part.Source offset)) = refl
      of (Some (part.Operator entries logs)) = refl
      of (Some (part.Sink names logs)) = refl

  none_named : (r : Option Role) (o : Option (Part R K S)) → o ≡ None → [] ≡ named_by r o
  none_named None o e = refl
  none_named (Some (role.Source partition)) o e = refl
  none_named (Some (role.Operator number)) o e = refl
  none_named (Some (role.Sink subtask)) o e = ap names_in (sym e)

  named_copy : (b : Bool) (r : Option Role) (o : Option (Part R K S)) → b ≡ true → (if b && is_some o then named_by r o else []) ≡ named_by r o
  named_copy b r o e = ap (λ (c : Bool). if c && is_some o then named_by r o else []) e ∙ of o
    where
      of : (o : Option (Part R K S)) → (if true && is_some o then named_by r o else []) ≡ named_by r o
      of None = none_named r None refl
      of (Some p) = refl

  module _ (graph : Expanded) (h : Held R K S) where
    -- while a checkpoint is pending, a run is held whole
    pub held_pending : (n : ℕ) → h.coordination.pending ≡ Some n → pruned_run (run_of cmp graph h) ≡ run_of cmp graph h
    held_pending n is =
        let yes_pending : is_some h.coordination.pending ≡ true = ap is_some is in
        let run = run_of cmp graph h in
        let attempts : (pruned_run run).attempt ≡ run.attempt =
        same_attempt (pruned_run run).attempt run.attempt (λ t. bare (slice_get h.tasks t)) (λ c. refl) refl
        (λ t. ap (λ (b : Bool). b && is_some (copy_at h t)) yes_pending) (λ t. bare_copy (is_some h.coordination.pending) (copy_at h t) yes_pending)
        (λ c. ap (λ (b : Bool). b && came_at h c) yes_pending) (λ c. ap (λ (b : Bool). if b then logged_at h c else []) yes_pending) in
        let number : (pruned_run run).number ≡ run.number = ap (λ (b : Bool). if b then run.number else 0) yes_pending in
        let named : (pruned_run run).named ≡ run.named = fun_ext (λ t. named_copy (is_some h.coordination.pending) (slice_get graph.tasks t) (copy_at h t) yes_pending) in
        λ i. record { attempt = attempts i; number = number i; named = named i }

    -- the run of which the checkpoint is complete
    abbrev pub run_completed : Running R K S → Running R K S
    run_completed run = with_attempt (record run.attempt { pending = false }) run

    pub held_completed : (n : ℕ) → pruned_run (run_completed (run_of cmp graph h)) ≡ run_of cmp graph (with_completed n h)
    held_completed n =
        let k : Held R K S = with_completed n h in
        let none : (t : ℕ) → copy_at k t ≡ None = λ t. same_each None (length h.copies) t in
        let old : Running R K S = pruned_run (run_completed (run_of cmp graph h)) in
        let new : Running R K S = run_of cmp graph k in
        let attempts : old.attempt ≡ new.attempt =
        same_attempt old.attempt new.attempt (λ t. bare (slice_get h.tasks t)) (λ c. refl) refl (λ t. sym (ap is_some (none t)))
        (λ t. sym (ap (copied_state cmp) (none t))) (λ c. sym (same_each false (length h.came) c)) (λ c. sym (same_each [] (length h.logs) c)) in
        let named : old.named ≡ new.named = fun_ext (λ t. none_named (slice_get graph.tasks t) (copy_at k t) (none t)) in
        λ i. record { attempt = attempts i; number = 0; named = named i }

    -- the run in which a checkpoint begins
    abbrev pub run_started : ℕ → Running R K S → Running R K S
    run_started n run = record { attempt = record run.attempt { pending = true; copied = λ task. false; came = λ channel. false; logs = λ channel. [] }; number = n; named = run.named }

    held_begun : (n : ℕ) (run : Running R K S) → ((t : ℕ) → without_output (run.attempt.tasks t) ≡ held_state cmp (slice_get h.tasks t)) → run.attempt.channels ≡ (run_of cmp graph h).attempt.channels
        → pruned_run (run_started n run) ≡ run_of cmp graph (with_started n h)
    held_begun n run tasks channels =
        let k : Held R K S = with_started n h in
        let none : (t : ℕ) → copy_at k t ≡ None = λ t. same_each None (length h.copies) t in
        let old : Running R K S = pruned_run (run_started n run) in
        let new : Running R K S = run_of cmp graph k in
        let attempts : old.attempt ≡ new.attempt =
        same_attempt old.attempt new.attempt tasks (λ c. ap (λ (f : ℕ → List (attempt.Item R)). f c) channels) refl (λ t. sym (ap is_some (none t)))
        (λ t. sym (ap (copied_state cmp) (none t))) (λ c. sym (same_each false (length h.came) c)) (λ c. sym (same_each [] (length h.logs) c)) in
        let named : old.named ≡ new.named = fun_ext (λ t. none_named (slice_get graph.tasks t) (copy_at k t) (none t)) in
        λ i. record { attempt = attempts i; number = n; named = named i }

    pub held_started : (n : ℕ) → pruned_run (run_started n (run_of cmp graph h)) ≡ run_of cmp graph (with_started n h)
    held_started n = held_begun n (run_of cmp graph h) (λ t. bare (slice_get h.tasks t)) refl

    -- and so where the run itself is only held
    pub held_started_held : (n : ℕ) → pruned_run (run_started n (pruned_run (run_of cmp graph h))) ≡ run_of cmp graph (with_started n h)
    held_started_held n = held_begun n (pruned_run (run_of cmp graph h)) (λ t. bare (slice_get h.tasks t)) refl

-- ---- the steps

module _ {R K S O B : Type 0} (lang : Language R K S O) (s : State O R K S) (h : Held R K S) (stored : Stored) (sinks : ℕ → SinkTransactions B) where
  -- the devices with this store
  abbrev pub devices : Stored → Devices R K S B
  devices store = record { store = store_of lang store; sinks = sinks }

  pub engine_persists : (n task : ℕ) (bytes : List ℕ) (r : Role) (p : Part R K S) → h.coordination.pending ≡ Some n → slice_get s.graph.tasks task ≡ Some r → copy_at h task ≡ Some p → CopyAs r (Some p)
      → HaveCome s.graph h task → OnlyMarked s.graph h → IsExpanded s.graph → whole_of lang.read_part bytes ≡ Ok (with_logs (logs_of s.graph h task) p)
      → EnginePersists (job_of lang s) task (devices stored) (devices (with_part stored n task bytes)) (run_of lang.cmp s.graph h) (run_of lang.cmp s.graph (with_acknowledged task h))
  engine_persists n task bytes r p is role_is copied form come only expanded reads = record {
    is_pending = ap is_some is;
    part = part_view lang.cmp (with_logs (logs_of s.graph h task) p);
    is_part = part_of_copy lang s h task r p expanded role_is copied form come only;
    puts = record {
      store_is =
          store_put lang stored n task bytes (with_logs (logs_of s.graph h task) p) reads
          ∙ ap (λ (o : Option ℕ). durable.with_part (unwrap_or o 0) task (part_view lang.cmp (with_logs (logs_of s.graph h task) p)) (store_of lang stored)) (sym is);
      sinks = refl;
    };
    ends = refl;
  }

  pub engine_completes : (n : ℕ) → PendingIn lang s.graph stored h n → h.coordination.pending ≡ Some n → IsReady h.coordination → length h.coordination.acked ≡ stored.tasks → stored.tasks ≡ length s.graph.tasks
      → EngineCompletes (job_of lang s) (devices stored) (devices (completed stored n)) (run_of lang.cmp s.graph h) (run_completed lang.cmp s.graph h (run_of lang.cmp s.graph h))
  engine_completes n pending is ready acked tasks = record {
    is_pending = ap is_some is;
    has_parts = subst (λ (o : Option ℕ). HasParts (job_of lang s) (store_of lang stored) (unwrap_or o 0)) (sym is)
        (ready_has_parts lang s.graph stored h n pending ready acked (job_of lang s) (length-map s.graph.tasks (task_of s.operators) ∙ sym tasks));
    completes = record {
      store_is = store_completed lang s.graph stored h n pending ∙ ap (λ (o : Option ℕ). durable.with_complete (unwrap_or o 0) (store_of lang stored)) (sym is);
      sinks = refl;
    };
    ends = refl;
  }

  pub engine_triggers : (run : Running R K S) → run.attempt.pending ≡ false → IsNumbered stored → EngineTriggers (devices stored) (devices (reserved stored)) run (run_started lang.cmp s.graph h stored.next run)
  engine_triggers run none numbered = record {
    attempt = (run_started lang.cmp s.graph h stored.next run).attempt;
    triggers = record { none_pending = none; ends = refl };
    reserves = record { store_is = store_reserved lang stored numbered; sinks = refl };
    ends = refl;
  }

  pub engine_discards : (run : Running R K S) (last : ℕ) → IsNumbered stored → is_complete stored last ≡ true → ((n : ℕ) → is_complete stored n ≡ true → n ≤ last)
      → EngineDiscards last (devices stored) (devices (discarded_below stored last)) run run
  engine_discards run last numbered complete greatest = record {
    discards = (last_of_line stored last numbered complete greatest, record { store_is = store_discarded lang stored last; sinks = refl });
    ends = refl;
  }
