-- Of each complete checkpoint the store has the parts of all tasks, or none.
use Rattle.std.proofs.Common.{◌≡◌, ◌⊎◌, ◌==◌, ◌&&◌, ◌||◌, ◌++◌, if◌then◌else◌, nat_lt, inl, inr, Option, Some, None, ℕ, Bool, true, false, List, [], ◌∷◌, refl, sym, ap, subst, ◌∙◌}
use Rattle.std.proofs.lemmas.Bool.{false≢true, or_cases, eqb-true}
use Rattle.std.proofs.lemmas.Bool.Decides.{eqb_tells}
use Rattle.std.proofs.lemmas.Option.{none-some}
use Rattle.dataflow_model.specs.Graph.{Task, SourceTask, OperatorTask, SinkTask, Job}
use Rattle.checkpoint_model.specs.Durable.{Part, Store, Devices, is_on, HasParts, Call, Reserve, Put, Discard, Begin, Append, PreCommit, Commit, AbortOpen, AbortPreCommitted, Does, reserved, with_part, without_below, with_complete, new_devices}
use Rattle.checkpoint_model.specs.Engine.{Running}
use Rattle.checkpoint_model.specs.Headline.{Engine, RunningStep, MovesPlainly, TakesABarrier, CopiesATask, TriggersACheckpoint, DiscardsParts, PersistsAPart, CompletesACheckpoint, CommitsATransaction}
use Rattle.checkpoint_model.specs.Pruned.{IsPrunedSound, PrunedStep, PrunedRuns, PrunedFails, PrunedCalls, PrunedRestarts, PrunedLeads}
use Rattle.checkpoint_model.specs.Laws.{HasReceivers}
use Rattle.checkpoint_model.proofs.Pruned.{pruned_sound}
use Rattle.checkpoint_model.proofs.PrunedReached.{whole}
use Rattle.checkpoint_model.proofs.Lines.{off_above}
use Rattle.engine_model.specs.Keeps.{AllOrNone}

-- ---- lines

on_push : (line : List ℕ) (n m : ℕ) → is_on (line ++ n ∷ []) m ≡ true → (is_on line m ≡ true) ⊎ (n ≡ m)
on_push [] n m on = inr (only (n == m) refl on)
  where
    only : (b : Bool) → (n == m) ≡ b → (b || false) ≡ true → n ≡ m
    only true e h = eqb-true n m e
    only false e h = absurd (false≢true h)
on_push (k ∷ line) n m on =
    elim (or_cases (k == m) (is_on (line ++ n ∷ []) m) on) [
      | inl here ↦ inl (ap (λ (b : Bool). b || is_on line m) here)
      | inr there ↦ elim (on_push line n m there) [
        | inl before ↦ inl (or_right_of (k == m) (is_on line m) before)
        | inr last ↦ inr last
      ]
    ]
  where
    or_right_of : (a b : Bool) → b ≡ true → (a || b) ≡ true
    or_right_of true b e = refl
    or_right_of false b e = e

-- ---- stores

module _ {R K S O : Type 0} (job : Job R K S O) (store : Store R K S) (all : AllOrNone job store) where
  whole_below : (n : ℕ) → AllOrNone job (without_below n store)
  whole_below n m task kind p on is has = of (nat_lt m n) refl
    where
      seen : (t : ℕ) → Bool → Option (Part R K S)
      seen t b = if b then None else store.parts m t

      of : (b : Bool) → nat_lt m n ≡ b → HasParts job (without_below n store) m
      of true e = absurd (none-some p (sym (ap (seen task) e) ∙ has))
      of false e = λ t k at. let one = all m task kind p on is (sym (ap (seen task) e) ∙ has) t k at in (one.0, ap (seen t) e ∙ one.1)

  whole_put : (n task : ℕ) (part : Part R K S) → is_on store.line n ≡ false → AllOrNone job (with_part n task part store)
  whole_put n task part off m other kind p on is has =
      λ t k at. let one = all m other kind p on is (sym (same other) ∙ has) t k at in (one.0, same t ∙ one.1)
    where
      apart : (m == n) ≡ false
      apart = elim (eqb_tells m n) [ inl e ↦ absurd (false≢true (sym off ∙ ap (is_on store.line) (sym e.1) ∙ on)) | inr e ↦ e.0 ]

      same : (t : ℕ) → (with_part n task part store).parts m t ≡ store.parts m t
      same t = ap (λ (b : Bool). if b && (t == task) then Some part else store.parts m t) apart

  whole_complete : (n : ℕ) → HasParts job store n → AllOrNone job (with_complete n store)
  whole_complete n has_parts m task kind p on is has =
      elim (on_push store.line n m on) [
        | inl before ↦ all m task kind p before is has
        | inr last ↦ subst (HasParts job store) last has_parts
      ]

-- a store that has no complete checkpoint
pub whole_new : {R K S O : Type 0} (B : Type 0) (job : Job R K S O) → AllOrNone job (new_devices {R = R} {K = K} {S = S} {B = B}).store
whole_new B job n task kind p on is has = absurd (false≢true on)

-- ---- steps

source_no_sink : {O : Type 0} (partition : ℕ) → ◌≡◌ {A = Task O} (SourceTask partition) SinkTask → ⊥
source_no_sink partition e = cc

operator_no_sink : {O : Type 0} (operator : O) → OperatorTask operator ≡ SinkTask → ⊥
operator_no_sink operator e = cc

sink_or_not : {O : Type 0} (kind : Task O) → (kind ≡ SinkTask) ⊎ (kind ≡ SinkTask → ⊥)
sink_or_not (SourceTask partition) = inr (source_no_sink partition)
sink_or_not (OperatorTask operator) = inr (operator_no_sink operator)
sink_or_not SinkTask = inl refl

module _ {R K S O B : Type 0} (job : Job R K S O) (is_logged : ℕ → Bool) (spell : R → B) where
  abbrev Whole : Devices R K S B → Type 0
  Whole devices = AllOrNone job devices.store

  store_is : (old new : Devices R K S B) (store : Store R K S) → new.store ≡ store → AllOrNone job store → Whole new
  store_is old new store e all = subst (AllOrNone job) (sym e) all

  same_devices : (old new : Devices R K S B) → new ≡ old → Whole old → Whole new
  same_devices old new e all = subst Whole (sym e) all

  running_whole : (old new : Devices R K S B) (run next : Running R K S) → RunningStep job is_logged spell old new run next → (run.attempt.pending ≡ true → is_on old.store.line run.number ≡ false) → Whole old → Whole new
  running_whole old new run next (MovesPlainly move m) off all =
      elim (sink_or_not m.moves.kind) [
        | inl sink ↦ store_is old new old.store (m.at_sink sink).store all
        | inr other ↦ same_devices old new (m.elsewhere other) all
      ]
  running_whole old new run next (TakesABarrier input t) off all = same_devices old new t.same all
  running_whole old new run next (CopiesATask task c) off all =
      elim (sink_or_not c.kind) [
        | inl sink ↦ let at = c.at_sink sink in store_is old new old.store (at.3.store ∙ at.2.store) all
        | inr other ↦ same_devices old new (c.elsewhere other).0 all
      ]
  running_whole old new run next (TriggersACheckpoint t) off all = store_is old new (reserved old.store) t.reserves.store_is all
  running_whole old new run next (DiscardsParts n d) off all = store_is old new (without_below n old.store) d.discards.1.store_is (whole_below job old.store all n)
  running_whole old new run next (PersistsAPart task p) off all = store_is old new (with_part run.number task p.part old.store) p.puts.store_is (whole_put job old.store all run.number task p.part (off p.is_pending))
  running_whole old new run next (CompletesACheckpoint c) off all = store_is old new (with_complete run.number old.store) c.completes.store_is (whole_complete job old.store all run.number c.has_parts)
  running_whole old new run next (CommitsATransaction task c) off all = store_is old new old.store c.commits.store all

  call_whole : (call : Call R K S B) (old new : Devices R K S B) → Does call old new → Whole old → Whole new
  call_whole Reserve old new d all = store_is old new (reserved old.store) d.store_is all
  call_whole (Put n task part) old new d all = store_is old new (with_part n task part old.store) d.2.store_is (whole_put job old.store all n task part d.0)
  call_whole (Discard n) old new d all = store_is old new (without_below n old.store) d.1.store_is (whole_below job old.store all n)
  call_whole (Begin task number) old new d all = store_is old new old.store d.store all
  call_whole (Append task bytes) old new d all = store_is old new old.store d.store all
  call_whole (PreCommit task n) old new d all = store_is old new old.store d.store all
  call_whole (Commit task) old new d all = store_is old new old.store d.store all
  call_whole (AbortOpen task) old new d all = store_is old new old.store d.store all
  call_whole (AbortPreCommitted task) old new d all = store_is old new old.store d.store all

  -- the pending checkpoint is not complete
  number_off : (devices : Devices R K S B) (run : Running R K S) → IsPrunedSound job is_logged spell devices (Some run) → run.attempt.pending ≡ true → is_on devices.store.line run.number ≡ false
  number_off devices run sound pending =
      let w = whole job is_logged spell devices run sound in
      let full : Running R K S = w.0 in
      let full_pending : full.attempt.pending ≡ true = ap (λ (r : Running R K S). r.attempt.pending) w.1 ∙ pending in
      let same : run.number ≡ full.number = ap (λ (r : Running R K S). r.number) (sym w.1) ∙ ap (λ (b : Bool). if b then full.number else 0) full_pending in
      ap (is_on devices.store.line) same ∙ off_above devices.store.line full.number (w.2.runs.above full_pending)

  step_whole : (old new : Engine R K S B) → PrunedStep job is_logged spell old new → IsPrunedSound job is_logged spell old.devices old.running → Whole old.devices → Whole new.devices
  step_whole old new (PrunedRuns run middle was is step) sound all =
      running_whole old.devices new.devices run middle step (number_off old.devices run (subst (IsPrunedSound job is_logged spell old.devices) was sound)) all
  step_whole old new (PrunedFails down same) sound all = same_devices old.devices new.devices same all
  step_whole old new (PrunedCalls call was down does) sound all = call_whole call old.devices new.devices does all
  step_whole old new (PrunedRestarts base down settled restored same up) sound all = same_devices old.devices new.devices same all

  pub steps_whole : (engines : List (Engine R K S B)) (old new : Engine R K S B) → HasReceivers job → PrunedLeads job is_logged spell old engines new → IsPrunedSound job is_logged spell old.devices old.running → Whole old.devices → Whole new.devices
  steps_whole [] old new receivers same sound all = subst (λ (e : Engine R K S B). Whole e.devices) (sym same) all
  steps_whole (next ∷ engines) old new receivers leads sound all =
      steps_whole engines next new receivers leads.1 (pruned_sound job spell is_logged (next ∷ []) old next receivers (leads.0, refl) sound) (step_whole old next leads.0 sound all)
