-- What is held of a run while a checkpoint is pending, and while none is; for proofs about code.
use Rattle.std.proofs.Common.{◌≡◌, ℕ, Bool, true, false, ◌&&◌, inl, inr, if◌then◌else◌, List, [], Some, refl, sym, ap, ap₂, ◌∙◌}
use mathlib.Core.Path.{fun_ext}
use Rattle.dataflow_model.specs.Graph.{Job}
use Rattle.dataflow_model.specs.Machine.{TaskState, fresh_task}
use Rattle.checkpoint_model.specs.Attempt.{Item, Attempt}
use Rattle.checkpoint_model.specs.Durable.{Devices}
use Rattle.checkpoint_model.specs.Engine.{Running}
use Rattle.checkpoint_model.specs.Seen.{without_output}
use Rattle.checkpoint_model.specs.Pruned.{pruned_run, IsPrunedSound}
use Rattle.checkpoint_model.proofs.Seen.{same_attempt}
use Rattle.checkpoint_model.proofs.PrunedReached.{pending_or_not, whole}

module _ {R K S : Type 0} where
  -- of a run, while one is pending: no copy and no name of a task that has not copied
  abbrev pub pruned_pending : Running R K S → Running R K S
  pruned_pending run =
      record {
        attempt =
            record {
              tasks = λ task. without_output (run.attempt.tasks task);
              channels = run.attempt.channels;
              pending = true;
              copied = run.attempt.copied;
              copies = λ task. if run.attempt.copied task then without_output (run.attempt.copies task) else fresh_task;
              came = run.attempt.came;
              logs = run.attempt.logs;
            };
        number = run.number;
        named = λ task. if run.attempt.copied task then run.named task else [];
      }

  -- while none is: tasks and channels
  abbrev pub pruned_idle : (ℕ → TaskState R K S) → (ℕ → List (Item R)) → Running R K S
  pruned_idle tasks channels =
      record {
        attempt =
            record {
              tasks = λ task. without_output (tasks task);
              channels = channels;
              pending = false;
              copied = λ task. false;
              copies = λ task. fresh_task;
              came = λ channel. false;
              logs = λ channel. [];
            };
        number = 0;
        named = λ task. [];
      }

  -- what is held, if whether one is pending is this
  abbrev pruned_by : Running R K S → Bool → Running R K S
  pruned_by run pending =
      record {
        attempt =
            record {
              tasks = λ task. without_output (run.attempt.tasks task);
              channels = run.attempt.channels;
              pending = pending;
              copied = λ task. pending && run.attempt.copied task;
              copies = λ task. if pending && run.attempt.copied task then without_output (run.attempt.copies task) else fresh_task;
              came = λ channel. pending && run.attempt.came channel;
              logs = λ channel. if pending then run.attempt.logs channel else [];
            };
        number = if pending then run.number else 0;
        named = λ task. if pending && run.attempt.copied task then run.named task else [];
      }

  pub while_pending : (run : Running R K S) → run.attempt.pending ≡ true → pruned_run run ≡ pruned_pending run
  while_pending run e = ap (pruned_by run) e

  pub none_pending : (run : Running R K S) → run.attempt.pending ≡ false → pruned_run run ≡ pruned_idle run.attempt.tasks run.attempt.channels
  none_pending run e = ap (pruned_by run) e

  -- runs that agree at each number are one
  pub same_run : (one two : Running R K S) → one.attempt ≡ two.attempt → one.number ≡ two.number → ((task : ℕ) → one.named task ≡ two.named task) → one ≡ two
  same_run one two attempt number named =
      let build : Attempt R K S → ℕ → (ℕ → List ℕ) → Running R K S = λ a n m. record { attempt = a; number = n; named = m } in
      ap₂ (λ a n. build a n one.named) attempt number ∙ ap (λ m. build two.attempt two.number m) (fun_ext named)

  pub pruned_twice : (run : Running R K S) → pruned_run (pruned_run run) ≡ pruned_run run
  pruned_twice run =
      elim (pending_or_not run.attempt.pending) [
        | inl e ↦
            let same : pruned_pending (pruned_pending run) ≡ pruned_pending run =
            same_run _ _
            (same_attempt _ _ (λ t. refl) (λ c. refl) refl (λ t. refl) (λ t. once (run.attempt.copied t) (run.attempt.copies t)) (λ c. refl) (λ c. refl))
            refl
            (λ t. if_twice (run.attempt.copied t) (run.named t) []) in
            while_pending (pruned_run run) e ∙ ap pruned_pending (while_pending run e) ∙ same ∙ sym (while_pending run e)
        | inr e ↦ none_pending (pruned_run run) e ∙ sym (none_pending run e)
      ]
    where
      once : (b : Bool) (x : TaskState R K S) → (if b then without_output (if b then without_output x else fresh_task) else fresh_task) ≡ (if b then without_output x else fresh_task)
      once true x = refl
      once false x = refl

      if_twice : {A : Type 0} (b : Bool) (x y : A) → (if b then (if b then x else y) else y) ≡ (if b then x else y)
      if_twice true x y = refl
      if_twice false x y = refl

  -- A run that is held, from one that agrees with it: at each task that has copied on the copy and the names.
  pub same_pending : (view run : Running R K S) → run.attempt.pending ≡ true → view.attempt.pending ≡ true → ((task : ℕ) → view.attempt.tasks task ≡ without_output (run.attempt.tasks task)) → ((channel : ℕ) → view.attempt.channels channel ≡ run.attempt.channels channel) → ((task : ℕ) → view.attempt.copied task ≡ run.attempt.copied task) → ((task : ℕ) → view.attempt.copies task ≡ (if run.attempt.copied task then without_output (run.attempt.copies task) else fresh_task)) → ((channel : ℕ) → view.attempt.came channel ≡ run.attempt.came channel) → ((channel : ℕ) → view.attempt.logs channel ≡ run.attempt.logs channel) → view.number ≡ run.number → ((task : ℕ) → view.named task ≡ (if run.attempt.copied task then run.named task else [])) → view ≡ pruned_run run
  same_pending view run pending here tasks channels copied copies came logs number named =
      same_run view (pruned_pending run) (same_attempt _ _ tasks channels here copied copies came logs) number named ∙ sym (while_pending run pending)

  pub same_idle : (view run : Running R K S) → run.attempt.pending ≡ false → view.attempt.pending ≡ false → ((task : ℕ) → view.attempt.tasks task ≡ without_output (run.attempt.tasks task)) → ((channel : ℕ) → view.attempt.channels channel ≡ run.attempt.channels channel) → ((task : ℕ) → view.attempt.copied task ≡ false) → ((task : ℕ) → view.attempt.copies task ≡ fresh_task) → ((channel : ℕ) → view.attempt.came channel ≡ false) → ((channel : ℕ) → view.attempt.logs channel ≡ []) → view.number ≡ 0 → ((task : ℕ) → view.named task ≡ []) → view ≡ pruned_run run
  same_idle view run pending here tasks channels copied copies came logs number named =
      same_run view (pruned_idle run.attempt.tasks run.attempt.channels) (same_attempt _ _ tasks channels here copied copies came logs) number named ∙ sym (none_pending run pending)

module _ {R K S O B : Type 0} where
  -- a sound engine holds no more than that
  pub view_is_pruned : (job : Job R K S O) (is_logged : ℕ → Bool) (spell : R → B) (devices : Devices R K S B) (run : Running R K S) → IsPrunedSound job is_logged spell devices (Some run) → pruned_run run ≡ run
  view_is_pruned job is_logged spell devices run s =
      let w = whole job is_logged spell devices run s in
      ap pruned_run (sym w.1) ∙ pruned_twice w.0 ∙ w.1
