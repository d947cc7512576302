-- What was dropped of an attempt is no part of its soundness, so an engine that holds the rest is sound as one that is seen.
use Rattle.std.proofs.Common.{◌≡◌, ℕ, ◌<◌, Bool, true, false, ◌&&◌, if◌then◌else◌, List, [], ◌∷◌, All, Option, Some, None, refl, sym, ap, ◌∙◌, subst}
use Rattle.std.proofs.lemmas.Bool.{false≢true}
use mathlib.Core.Path.{fun_ext}
use Rattle.dataflow_model.specs.Graph.{Job}
use Rattle.dataflow_model.specs.Machine.{TaskState, Configuration, Move, Reaches, fresh_task, start}
use Rattle.checkpoint_model.specs.Attempt.{Attempt, bare, started}
use Rattle.checkpoint_model.specs.Consistent.{cut_so_far, IsQuiet, IsCutting, IsConsistent}
use Rattle.checkpoint_model.specs.Laws.{HasReceivers}
use Rattle.checkpoint_model.specs.Durable.{Part, SinkTransactions, Devices, joined, last_from, new_devices}
use Rattle.checkpoint_model.specs.Engine.{Running, SinkFits, IsPartOf, IsRunning, IsSound}
use Rattle.checkpoint_model.specs.Headline.{Engine, WithdrawsNothing}
use Rattle.checkpoint_model.specs.Seen.{without_output, seen_run, seen_running, IsSeenSound, SeenStep, SeenRuns, SeenFails, SeenCalls, SeenRestarts}
use Rattle.checkpoint_model.specs.Pruned.{has_copy, pruned, pruned_run, pruned_running, IsPrunedSound, PrunedStep, PrunedRuns, PrunedFails, PrunedCalls, PrunedRestarts, PrunedStepsKeepSound, PrunedStepsWithdrawNothing, NewPrunedEnginesAreSound, PrunedEnginesAreExact, PrunedGrowthKeepsSound}
use Rattle.checkpoint_model.proofs.Plain.{same_configuration}
use Rattle.checkpoint_model.proofs.Settled.{begins_more}
use Rattle.checkpoint_model.proofs.Headline.{growth, same_withdraws}
use Rattle.checkpoint_model.proofs.Seen.{seen_sound, seen_withdraws, new_sound, sound_exact}

module _ {R K S : Type 0} where
  -- what is left of a run when all is dropped that no pending checkpoint needs; the outputs stay
  abbrev left_attempt : Bool → Attempt R K S → Attempt R K S
  left_attempt pending attempt =
      record {
        tasks = attempt.tasks;
        channels = attempt.channels;
        pending = attempt.pending;
        copied = λ task. pending && attempt.copied task;
        copies = λ task. if pending && attempt.copied task then attempt.copies task else fresh_task;
        came = λ channel. pending && attempt.came channel;
        logs = λ channel. if pending then attempt.logs channel else [];
      }

  abbrev left_run : Bool → Running R K S → Running R K S
  left_run pending run =
      record {
        attempt = left_attempt pending run.attempt;
        number = if pending then run.number else 0;
        named = λ task. if pending && run.attempt.copied task then run.named task else [];
      }

  abbrev kept : Running R K S → Running R K S
  kept run = left_run run.attempt.pending run

  same_copy : (copied : Bool) (copy now : TaskState R K S) → (if copied then (if copied then copy else fresh_task) else now) ≡ (if copied then copy else now)
  same_copy true copy now = refl
  same_copy false copy now = refl

module _ {R K S O : Type 0} (job : Job R K S O) (attempt : Attempt R K S) where
  same_cut : cut_so_far job (left_attempt true attempt) ≡ cut_so_far job attempt
  same_cut = same_configuration _ _ (λ task. same_copy (attempt.copied task) (attempt.copies task) (attempt.tasks task)) (λ channel. refl)

  kept_consistent : (is_logged : ℕ → Bool) (base : Configuration R K S) → IsConsistent job is_logged base attempt → IsConsistent job is_logged base (left_attempt attempt.pending attempt)
  kept_consistent is_logged base consistent =
      let quiet : attempt.pending ≡ false → IsQuiet job base (left_attempt attempt.pending attempt) =
      λ e. let q = consistent.0 e in record { no_barrier = q.no_barrier; run = q.run } in
      let cutting : attempt.pending ≡ true → IsCutting job is_logged base (left_attempt attempt.pending attempt) =
      λ e.
      let c = consistent.1 e in
      let before : (moves : List Move) × Reaches job moves base (cut_so_far job (left_attempt true attempt)) = (c.before.0, subst (λ x. Reaches job c.before.0 base x) (sym same_cut) c.before.1) in
      let after : Reaches job c.since.0 (cut_so_far job (left_attempt true attempt)) (bare attempt) = subst (λ x. Reaches job c.since.0 x (bare attempt)) (sym same_cut) c.since.2 in
      let here : IsCutting job is_logged base (left_attempt true attempt) = record { fits = c.fits; before = before; since = (c.since.0, c.since.1, after) } in
      subst (λ b. IsCutting job is_logged base (left_attempt b attempt)) (sym e) here in
      (quiet, cutting)

module _ {R K S B : Type 0} (spell : R → B) (line : List ℕ) (number : ℕ) (names : List ℕ) (sink : SinkTransactions B) (now : List R) (copy : TaskState R K S) where
  kept_fits : (pending copied : Bool) → SinkFits spell line (pending && copied) number names sink now copy.output → SinkFits spell line (pending && (pending && copied)) (if pending then number else 0) (if pending && copied then names else []) sink now (if pending && copied then copy else fresh_task).output
  kept_fits true true f = f
  kept_fits true false f = record { one = f.one; one_open = f.one_open; output = f.output; before_copy = f.before_copy; after_copy = λ e. absurd (false≢true e) }
  kept_fits false copied f = record { one = f.one; one_open = f.one_open; output = f.output; before_copy = f.before_copy; after_copy = λ e. absurd (false≢true e) }

module _ {R K S O B : Type 0} (job : Job R K S O) (is_logged : ℕ → Bool) (spell : R → B) (base : Configuration R K S) (devices : Devices R K S B) (run : Running R K S) where
  part_kept : (task : ℕ) (part : Part R K S) → IsPartOf job run task part → IsPartOf job (left_run true run) task part
  part_kept task part i =
      let copy : run.attempt.copies task ≡ (if run.attempt.copied task then run.attempt.copies task else fresh_task) =
      ap (λ b. if b then run.attempt.copies task else fresh_task) (sym i.copied) in
      let names : run.named task ≡ (if run.attempt.copied task then run.named task else []) = ap (λ b. if b then run.named task else []) (sym i.copied) in
      record {
        copied = i.copied;
        closed = i.closed;
        offset = i.offset ∙ ap (λ (h : TaskState R K S). h.offset) copy;
        states = i.states ∙ ap (λ (h : TaskState R K S). h.states) copy;
        logs = i.logs;
        names = λ sink. i.names sink ∙ names;
      }

  kept_running : IsRunning job is_logged spell base devices run → IsRunning job is_logged spell base devices (kept run)
  kept_running r =
      record {
        consistent = kept_consistent job run.attempt is_logged base r.consistent;
        sinks =
            λ task sink.
            kept_fits spell devices.store.line run.number (run.named task) (devices.sinks task) (run.attempt.tasks task).output (run.attempt.copies task) run.attempt.pending (run.attempt.copied task) (r.sinks task sink);
        above = λ e. subst (λ (b : Bool). All (λ n. n < (if b then run.number else 0)) devices.store.line) (sym e) (r.above e);
        below = λ e. subst (λ (b : Bool). (if b then run.number else 0) < devices.store.next) (sym e) (r.below e);
        parts =
            λ e.
            let P : Bool → Type 0 = λ b. (task : ℕ) (part : Part R K S) → devices.store.parts (if b then run.number else 0) task ≡ Some part → IsPartOf job (left_run b run) task part in
            subst P (sym e) (λ task part p. part_kept task part (r.parts e task part p));
      }

module _ {R K S O B : Type 0} (job : Job R K S O) (is_logged : ℕ → Bool) (spell : R → B) (devices : Devices R K S B) where
  -- the two forms of soundness are one, over what is held
  seen_kept : (b : Bool) (copy : TaskState R K S) → without_output (if b then copy else fresh_task) ≡ (if b then without_output copy else fresh_task)
  seen_kept true copy = refl
  seen_kept false copy = refl

  seen_of_kept : (run : Running R K S) → seen_run (kept run) ≡ pruned_run run
  seen_of_kept run =
      let build : (ℕ → TaskState R K S) → Running R K S =
      λ copies. record { attempt = record (pruned run.attempt) { copies = copies }; number = (pruned_run run).number; named = (pruned_run run).named } in
      ap build (fun_ext (λ task. seen_kept (has_copy run.attempt task) (run.attempt.copies task)))

  pub seen_from_pruned : (view : Option (Running R K S)) → IsPrunedSound job is_logged spell devices view → IsSeenSound job is_logged spell devices view
  seen_from_pruned view s = from s.running s.is_pruned s.sound
    where
      from : (running : Option (Running R K S)) → pruned_running running ≡ view → IsSound job is_logged spell devices running → IsSeenSound job is_logged spell devices view
      from None e s = record { running = None; is_seen = e; sound = s }
      from (Some run) e s =
          record {
            running = Some (kept run);
            is_seen = ap (λ r. Some r) (seen_of_kept run) ∙ e;
            sound = record { cuts = s.cuts; clear = s.clear; legal = s.legal; fits = s.fits; runs = kept_running job is_logged spell (last_from start s.cuts) devices run s.runs };
          }

  pub pruned_from_seen : (view : Option (Running R K S)) → IsSeenSound job is_logged spell devices view → IsPrunedSound job is_logged spell devices (pruned_running view)
  pruned_from_seen view s = record { running = s.running; is_pruned = again s.running ∙ ap pruned_running s.is_seen; sound = s.sound }
    where
      again : (running : Option (Running R K S)) → pruned_running running ≡ pruned_running (seen_running running)
      again None = refl
      again (Some run) = refl

module _ {R K S O B : Type 0} where
  -- a step with what a pending checkpoint leaves, before it is dropped
  abbrev SeenFirst : (job : Job R K S O) (is_logged : ℕ → Bool) (spell : R → B) (old new : Engine R K S B) → Type 0
  SeenFirst job is_logged spell old new =
      (running : Option (Running R K S)) × (new.running ≡ pruned_running running) × SeenStep job is_logged spell old (record { devices = new.devices; running = running })

  seen_first : (job : Job R K S O) (is_logged : ℕ → Bool) (spell : R → B) (old new : Engine R K S B) → PrunedStep job is_logged spell old new → SeenFirst job is_logged spell old new
  seen_first job is_logged spell old new (PrunedRuns run middle was now step) = (Some (seen_run middle), now, SeenRuns run middle was refl step)
  seen_first job is_logged spell old new (PrunedFails down same) = (None, down, SeenFails refl same)
  seen_first job is_logged spell old new (PrunedCalls call was down does) = (None, down, SeenCalls call was refl does)
  seen_first job is_logged spell old new (PrunedRestarts base was settled_all restored same up) =
      let run : Running R K S = record { attempt = started base; number = 0; named = λ task. [] } in
      (Some run, up, SeenRestarts base 0 (λ task. []) was settled_all restored same refl)

  step_sound : (job : Job R K S O) (spell : R → B) (is_logged : ℕ → Bool) (old new : Engine R K S B) → HasReceivers job → PrunedStep job is_logged spell old new → IsPrunedSound job is_logged spell old.devices old.running → IsPrunedSound job is_logged spell new.devices new.running
  step_sound job spell is_logged old new receivers step s =
      let f = seen_first job is_logged spell old new step in
      let to : Engine R K S B = record { devices = new.devices; running = f.0 } in
      let one = seen_sound job spell is_logged (to ∷ []) old to receivers (f.2, refl) (seen_from_pruned job is_logged spell old.devices old.running s) in
      subst (λ v. IsPrunedSound job is_logged spell new.devices v) (sym f.1) (pruned_from_seen job is_logged spell new.devices f.0 one)

  pub pruned_sound : (job : Job R K S O) (spell : R → B) → PrunedStepsKeepSound job spell
  pruned_sound job spell is_logged [] old new receivers l s = subst (λ (e : Engine R K S B). IsPrunedSound job is_logged spell e.devices e.running) (sym l) s
  pruned_sound job spell is_logged (next ∷ engines) old new receivers l s =
      pruned_sound job spell is_logged engines next new receivers l.1 (step_sound job spell is_logged old next receivers l.0 s)

  pub pruned_withdraws : (job : Job R K S O) (spell : R → B) → PrunedStepsWithdrawNothing job spell
  pruned_withdraws job spell is_logged [] old new l = same_withdraws old.devices new.devices (ap (λ (e : Engine R K S B). e.devices.sinks) l)
  pruned_withdraws job spell is_logged (next ∷ engines) old new l =
      let f = seen_first job is_logged spell old next l.0 in
      let to : Engine R K S B = record { devices = next.devices; running = f.0 } in
      let first : WithdrawsNothing old next = seen_withdraws job spell is_logged (to ∷ []) old to (f.2, refl) in
      let rest = pruned_withdraws job spell is_logged engines next new l.1 in
      λ task. begins_more (joined (old.devices.sinks task).committed) (joined (next.devices.sinks task).committed) (joined (new.devices.sinks task).committed) (first task) (rest task)

  pub new_pruned : (job : Job R K S O) (spell : R → B) → NewPrunedEnginesAreSound job spell
  new_pruned job spell is_logged =
      pruned_from_seen job is_logged spell new_devices None (new_sound job spell is_logged)

  pub pruned_exact : (job : Job R K S O) (spell : R → B) → PrunedEnginesAreExact job spell
  pruned_exact job spell is_logged engine s = sound_exact job spell is_logged engine (seen_from_pruned job is_logged spell engine.devices engine.running s)

  pub pruned_growth : (job : Job R K S O) (spell : R → B) → PrunedGrowthKeepsSound job spell
  pruned_growth job spell is_logged partitions engine grown s =
      let full : Engine R K S B = record { devices = engine.devices; running = s.running } in
      record { running = s.running; is_pruned = s.is_pruned; sound = growth job spell is_logged partitions full grown s.sound }
