-- What an engine holds of an attempt: nothing of a checkpoint that isn't pending, no copy of a task that has not copied, and no output of a sink.
use Rattle.std.specs.Prelude.{◌≡◌, ℕ, Bool, ◌&&◌, if◌then◌else◌, List, [], ◌∷◌, Option, Some, None}
use Rattle.dataflow_model.specs.Graph.{Job, Begins, over}
use Rattle.dataflow_model.specs.Machine.{Configuration, fresh_task}
use Rattle.checkpoint_model.specs.Attempt.{Attempt, started}
use Rattle.checkpoint_model.specs.Laws.{HasReceivers}
use Rattle.checkpoint_model.specs.Durable.{Devices, IsSink, Call, Does, new_devices}
use Rattle.checkpoint_model.specs.Engine.{Running, IsSound}
use Rattle.checkpoint_model.specs.EngineLaws.{IsSettled}
use Rattle.checkpoint_model.specs.Headline.{Engine, RunningStep, WithdrawsNothing, IsExactlyOnce}
use Rattle.checkpoint_model.specs.Seen.{without_output, IsSeenRestored}

module _ {R K S : Type 0} where
  -- the task has copied for the pending checkpoint
  abbrev pub has_copy : Attempt R K S → ℕ → Bool
  has_copy attempt task = attempt.pending && attempt.copied task

  abbrev pub pruned : Attempt R K S → Attempt R K S
  pruned attempt =
      record {
        tasks = λ task. without_output (attempt.tasks task);
        channels = attempt.channels;
        pending = attempt.pending;
        copied = λ task. has_copy attempt task;
        copies = λ task. if has_copy attempt task then without_output (attempt.copies task) else fresh_task;
        came = λ channel. attempt.pending && attempt.came channel;
        logs = λ channel. if attempt.pending then attempt.logs channel else [];
      }

  abbrev pub pruned_run : Running R K S → Running R K S
  pruned_run run =
      record {
        attempt = pruned run.attempt;
        number = if run.attempt.pending then run.number else 0;
        named = λ task. if has_copy run.attempt task then run.named task else [];
      }

  -- the attempt that starts from a configuration, as it is held
  abbrev pub pruned_start : Configuration R K S → Running R K S
  pruned_start base = record { attempt = pruned (started base); number = 0; named = λ task. [] }

  abbrev pub pruned_running : Option (Running R K S) → Option (Running R K S)
  pruned_running None = None
  pruned_running (Some run) = Some (pruned_run run)

module _ {R K S O B : Type 0} where
  -- an engine that holds this much is sound if it is with some outputs, and with something in place of what it dropped
  pub record IsPrunedSound (job : Job R K S O) (is_logged : ℕ → Bool) (spell : R → B) (devices : Devices R K S B) (view : Option (Running R K S)) : Type 0 where
    pub running : Option (Running R K S)
    pub is_pruned : pruned_running running ≡ view
    pub sound : IsSound job is_logged spell devices running

  -- a step of an engine that holds this much
  pub data PrunedStep (job : Job R K S O) (is_logged : ℕ → Bool) (spell : R → B) (old new : Engine R K S B) : Type 0 where
    PrunedRuns : (run middle : Running R K S) → old.running ≡ Some run → new.running ≡ Some (pruned_run middle) → RunningStep job is_logged spell old.devices new.devices run middle → PrunedStep job is_logged spell old new
    PrunedFails : new.running ≡ None → new.devices ≡ old.devices → PrunedStep job is_logged spell old new
    PrunedCalls : (call : Call R K S B) → old.running ≡ None → new.running ≡ None → Does call old.devices new.devices → PrunedStep job is_logged spell old new
    PrunedRestarts : (base : Configuration R K S) →
        old.running ≡ None → ((task : ℕ) → IsSink job task → IsSettled (old.devices.sinks task)) → IsSeenRestored job old.devices base →
        new.devices ≡ old.devices → new.running ≡ Some (pruned_start base) → PrunedStep job is_logged spell old new

  -- these engines are each a step after the one before
  abbrev pub PrunedLeads : Job R K S O → (ℕ → Bool) → (R → B) → Engine R K S B → List (Engine R K S B) → Engine R K S B → Type 0
  PrunedLeads job is_logged spell old [] new = new ≡ old
  PrunedLeads job is_logged spell old (next ∷ engines) new = PrunedStep job is_logged spell old next × PrunedLeads job is_logged spell next engines new

  -- lists of steps keep an engine sound, and withdraw nothing
  abbrev pub PrunedStepsKeepSound : Job R K S O → (R → B) → Type 0
  PrunedStepsKeepSound job spell =
      (is_logged : ℕ → Bool) (engines : List (Engine R K S B)) (old new : Engine R K S B) → HasReceivers job → PrunedLeads job is_logged spell old engines new →
      IsPrunedSound job is_logged spell old.devices old.running → IsPrunedSound job is_logged spell new.devices new.running

  abbrev pub PrunedStepsWithdrawNothing : Job R K S O → (R → B) → Type 0
  PrunedStepsWithdrawNothing job spell =
      (is_logged : ℕ → Bool) (engines : List (Engine R K S B)) (old new : Engine R K S B) → PrunedLeads job is_logged spell old engines new → WithdrawsNothing old new

  -- over new devices an engine is sound, and each sound engine's devices are exact
  abbrev pub NewPrunedEnginesAreSound : Job R K S O → (R → B) → Type 0
  NewPrunedEnginesAreSound job spell = (is_logged : ℕ → Bool) → IsPrunedSound job is_logged spell new_devices None

  abbrev pub PrunedEnginesAreExact : Job R K S O → (R → B) → Type 0
  PrunedEnginesAreExact job spell =
      (is_logged : ℕ → Bool) (engine : Engine R K S B) → IsPrunedSound job is_logged spell engine.devices engine.running → IsExactlyOnce job spell engine.devices

  -- growing partitions keep it sound
  abbrev pub PrunedGrowthKeepsSound : Job R K S O → (R → B) → Type 0
  PrunedGrowthKeepsSound job spell =
      (is_logged : ℕ → Bool) (partitions : ℕ → List R) (engine : Engine R K S B) → ((partition : ℕ) → Begins (job.partitions partition) (partitions partition)) →
      IsPrunedSound job is_logged spell engine.devices engine.running → IsPrunedSound (over job partitions) is_logged spell engine.devices engine.running
