-- Steps of an engine that stays up, seen as steps of the plain machine.
use Rattle.std.proofs.Common.{◌≡◌, ℕ, Bool, List, [], ◌∷◌, ◌++◌, map, length, drop, slice_get, Some, None, ◌⊎◌, inl, inr, refl, sym, ap, ◌∙◌, subst, arith}
use Rattle.std.proofs.lemmas.Option.{none-some, same_Some}
use Rattle.std.proofs.lemmas.List.Elements.{All-head, All-tail}
use Rattle.dataflow_model.specs.Graph.{SinkTask, Job}
use Rattle.dataflow_model.specs.Machine.{Configuration, Move, mover, Reaches}
use Rattle.dataflow_model.proofs.Runs.{join}
use Rattle.checkpoint_model.specs.Durable.{Devices, IsSink}
use Rattle.checkpoint_model.specs.Engine.{Running}
use Rattle.checkpoint_model.specs.Headline.{Engine, RunningStep, SpellsOnce, MovesPlainly, TakesABarrier, CopiesATask, TriggersACheckpoint, DiscardsParts, PersistsAPart, CompletesACheckpoint, CommitsATransaction}
use Rattle.checkpoint_model.specs.Pruned.{pruned_run, IsPrunedSound, PrunedStep, PrunedRuns, PrunedFails, PrunedCalls, PrunedRestarts}
use Rattle.checkpoint_model.specs.PrunedLaws.{IsBare, PrunedRunsArePlain, GrowthLeavesBare, BareIsOne}
use Rattle.checkpoint_model.proofs.Plain.{same_configuration}
use Rattle.checkpoint_model.proofs.Headline.{option_cases, same_state}
use Rattle.checkpoint_model.proofs.Steps.{sink_or_not}
use Rattle.checkpoint_model.proofs.Pruned.{pruned_sound}
use Rattle.checkpoint_model.proofs.PrunedPlain.{plain_moves, others_stay}
use Rattle.checkpoint_model.proofs.PrunedReached.{sound_one_open}

spelled_once : {R B : Type 0} (spell : R → B) → SpellsOnce spell → (xs ys : List R) → map spell xs ≡ map spell ys → xs ≡ ys
spelled_once spell once [] [] e = refl
spelled_once spell once [] (y ∷ ys) e = absurd (omega (arith, ap length e))
spelled_once spell once (x ∷ xs) [] e = absurd (omega (arith, ap length e))
spelled_once {R} spell once (x ∷ xs) (y ∷ ys) e =
    let head : x ≡ y = once x y (same_Some (spell x) (spell y) (ap (λ l. slice_get l 0) e)) in
    ap (λ a. a ∷ xs) head ∙ ap (λ l. y ∷ l) (spelled_once spell once xs ys (ap (λ l. drop 1 l) e))

sink_task : {R K S O : Type 0} (job : Job R K S O) (task : ℕ) → IsSink job task ⊎ (IsSink job task → ⊥)
sink_task job task =
    elim (option_cases (slice_get job.graph.tasks task)) [
      | inl none ↦ inr (λ sink. none-some SinkTask (sym none ∙ sink))
      | inr kind ↦
          elim (sink_or_not kind.0) [
            | inl here ↦ inl (kind.1 ∙ ap (λ k. Some k) here)
            | inr elsewhere ↦ inr (λ sink. elsewhere (same_Some kind.0 SinkTask (sym kind.1 ∙ sink)))
          ]
    ]

module _ {R K S O B : Type 0} where
  -- a running engine comes, by plain moves, from the configuration to what it stands for
  abbrev ComesFrom : Job R K S O → (R → B) → Devices R K S B → Running R K S → Configuration R K S → Type 0
  ComesFrom job spell devices run at = (moves : List Move) × (after : Configuration R K S) × Reaches job moves at after × IsBare job spell devices run after

  pub one_is_plain : (job : Job R K S O) (is_logged : ℕ → Bool) (spell : R → B) (old new : Devices R K S B) (run next : Running R K S) (at : Configuration R K S) → RunningStep job is_logged spell old new run next → IsPrunedSound job is_logged spell old (Some run) → IsBare job spell old run at → ComesFrom job spell new (pruned_run next) at
  one_is_plain job is_logged spell old new run next at (MovesPlainly move m) s b =
      let d = plain_moves job spell move old new run next at m (λ sink. sound_one_open job spell is_logged old run (mover move) s sink) b in
      (move ∷ [], d.0, (d.0, d.1, refl), d.2)
  one_is_plain job is_logged spell old new run next at (TakesABarrier input m) s b = ([], at, refl, (others_stay job spell is_logged).barrier input old new run next at m b)
  one_is_plain job is_logged spell old new run next at (CopiesATask task m) s b = ([], at, refl, (others_stay job spell is_logged).copy task old new run next at m b)
  one_is_plain job is_logged spell old new run next at (TriggersACheckpoint m) s b = ([], at, refl, (others_stay job spell is_logged).trigger old new run next at m b)
  one_is_plain job is_logged spell old new run next at (DiscardsParts n m) s b = ([], at, refl, (others_stay job spell is_logged).discard n old new run next at m b)
  one_is_plain job is_logged spell old new run next at (PersistsAPart task m) s b = ([], at, refl, (others_stay job spell is_logged).persist task old new run next at m b)
  one_is_plain job is_logged spell old new run next at (CompletesACheckpoint m) s b = ([], at, refl, (others_stay job spell is_logged).completion old new run next at m b)
  one_is_plain job is_logged spell old new run next at (CommitsATransaction task m) s b = ([], at, refl, (others_stay job spell is_logged).commit task old new run next at m b)

  abbrev UpFrom : Job R K S O → (R → B) → Engine R K S B → Configuration R K S → Type 0
  UpFrom job spell engine at = (next : Running R K S) × (engine.running ≡ Some next) × ComesFrom job spell engine.devices next at

  step_is_plain : (job : Job R K S O) (is_logged : ℕ → Bool) (spell : R → B) (old new : Engine R K S B) (run : Running R K S) (at : Configuration R K S) → PrunedStep job is_logged spell old new → (new.running ≡ None → ⊥) → IsPrunedSound job is_logged spell old.devices old.running → old.running ≡ Some run → IsBare job spell old.devices run at → UpFrom job spell new at
  step_is_plain job is_logged spell old new run at (PrunedRuns before middle was now step) up s runs b =
      let same : run ≡ before = same_Some run before (sym runs ∙ was) in
      let sound = subst (λ v. IsPrunedSound job is_logged spell old.devices v) was s in
      let here = subst (λ r. IsBare job spell old.devices r at) same b in
      (pruned_run middle, now, one_is_plain job is_logged spell old.devices new.devices before middle at step sound here)
  step_is_plain job is_logged spell old new run at (PrunedFails down same) up s runs b = absurd (up down)
  step_is_plain job is_logged spell old new run at (PrunedCalls call was down does) up s runs b = absurd (up down)
  step_is_plain job is_logged spell old new run at (PrunedRestarts base was settled restored same now) up s runs b = absurd (none-some run (sym was ∙ runs))

  pub runs_are_plain : (job : Job R K S O) (spell : R → B) → PrunedRunsArePlain job spell
  runs_are_plain job spell is_logged [] old new run at receivers l up s runs b =
      let here : IsBare job spell new.devices run at = subst (λ (e : Engine R K S B). IsBare job spell e.devices run at) (sym l) b in
      ([], run, at, ap (λ (e : Engine R K S B). e.running) l ∙ runs, refl, here)
  runs_are_plain job spell is_logged (engine ∷ engines) old new run at receivers l up s runs b =
      let Up : Engine R K S B → Type 0 = λ e. e.running ≡ None → ⊥ in
      let one = step_is_plain job is_logged spell old engine run at l.0 (All-head Up engine engines up) s runs b in
      let sound = pruned_sound job spell is_logged (engine ∷ []) old engine receivers (l.0, refl) s in
      let from = one.2 in
      let rest = runs_are_plain job spell is_logged engines engine new one.0 from.1 receivers l.1 (All-tail Up engine engines up) sound one.1 from.3 in
      (from.0 ++ rest.0, rest.1, rest.2, rest.3, join job from.0 rest.0 at from.1 rest.2 from.2 rest.4, rest.5)

  pub growth_leaves : (job : Job R K S O) (spell : R → B) → GrowthLeavesBare job spell
  growth_leaves job spell partitions devices run at b = record { offsets = b.offsets; states = b.states; channels = b.channels; outputs = b.outputs; elsewhere = b.elsewhere }

  pub bare_is_one : (job : Job R K S O) (spell : R → B) → BareIsOne job spell
  bare_is_one job spell devices run one two once a b =
      same_configuration one two
      (λ task.
      let output : (one.tasks task).output ≡ (two.tasks task).output =
      elim (sink_task job task) [
        | inl sink ↦ spelled_once spell once (one.tasks task).output (two.tasks task).output (a.outputs task sink ∙ sym (b.outputs task sink))
        | inr no_sink ↦ a.elsewhere task no_sink ∙ sym (b.elsewhere task no_sink)
      ] in
      same_state (one.tasks task) (two.tasks task) (a.offsets task ∙ sym (b.offsets task)) (a.states task ∙ sym (b.states task)) output)
      (λ channel. a.channels channel ∙ sym (b.channels channel))
