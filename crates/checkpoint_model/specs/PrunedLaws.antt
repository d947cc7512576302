-- The plain configuration that a running engine stands for, and what the engine's steps do to it: a move is one plain step, and all else leaves it.
use Rattle.std.specs.Prelude.{◌≡◌, ℕ, Bool, false, List, [], ◌∷◌, ◌++◌, map, length, All, Some, None}
use Rattle.dataflow_model.specs.Graph.{Job, over}
use Rattle.dataflow_model.specs.Machine.{Configuration, Move, mover, Step, Reaches, start}
use Rattle.checkpoint_model.specs.Attempt.{records}
use Rattle.checkpoint_model.specs.Laws.{HasReceivers}
use Rattle.checkpoint_model.specs.Durable.{Transaction, SinkTransactions, Devices, is_on, joined, transactions_of, IsSink}
use Rattle.checkpoint_model.specs.Engine.{Running}
use Rattle.checkpoint_model.specs.EngineLaws.{EngineMoves, EngineTakesBarrier, EngineCopies, EngineTriggers, EngineDiscards, EnginePersists, EngineCompletes, EngineCommits}
use Rattle.checkpoint_model.specs.Headline.{Engine, RunningStep, EngineStep, SpellsOnce, CommitsItsOutput}
use Rattle.checkpoint_model.specs.Pruned.{pruned_run, pruned_running, IsPrunedSound, PrunedStep, PrunedLeads}

module _ {B : Type 0} where
  -- exactly one transaction is open
  abbrev pub HasOneOpen : SinkTransactions B → Type 0
  HasOneOpen sink = (one : Transaction B) × (sink.open_ones ≡ one ∷ [])

  -- the records of the committed, then of the pre-committed, then of the open transactions
  abbrev pub all_records : SinkTransactions B → List B
  all_records sink = joined (sink.committed ++ transactions_of sink.pre_committed ++ sink.open_ones)

module _ {R K S B : Type 0} where
  -- the engine as it is held
  abbrev pub pruned_engine : Engine R K S B → Engine R K S B
  pruned_engine engine = record { devices = engine.devices; running = pruned_running engine.running }

module _ {R K S O : Type 0} where
  -- only sinks name transactions
  abbrev pub OnlySinksName : Job R K S O → Running R K S → Type 0
  OnlySinksName job run = (task : ℕ) → (IsSink job task → ⊥) → run.named task ≡ []

module _ {R K S O B : Type 0} where
  -- The plain configuration that a running engine stands for: each task holds what the engine's holds, the channels hold their records with the
  -- barriers left out, and a sink's output is what stands in its transactions.
  pub record IsBare (job : Job R K S O) (spell : R → B) (devices : Devices R K S B) (run : Running R K S) (at : Configuration R K S) : Type 0 where
    pub offsets : (task : ℕ) → (at.tasks task).offset ≡ (run.attempt.tasks task).offset
    pub states : (task : ℕ) → (at.tasks task).states ≡ (run.attempt.tasks task).states
    pub channels : (channel : ℕ) → at.channels channel ≡ records (run.attempt.channels channel)
    pub outputs : (task : ℕ) → IsSink job task → map spell (at.tasks task).output ≡ all_records (devices.sinks task)
    pub elsewhere : (task : ℕ) → (IsSink job task → ⊥) → (at.tasks task).output ≡ []

  -- A move of the engine is one step of the plain machine. (A sink that moves puts its record into the one transaction that is open.)
  abbrev pub PlainMoves : Job R K S O → (R → B) → Type 0
  PlainMoves job spell =
      (move : Move) (old new : Devices R K S B) (run next : Running R K S) (at : Configuration R K S) →
      EngineMoves job spell move old new run next → (IsSink job (mover move) → HasOneOpen (old.sinks (mover move))) → IsBare job spell old run at →
      (after : Configuration R K S) × Step job move at after × IsBare job spell new (pruned_run next) after

  -- such a step leaves the plain configuration as it is
  abbrev pub LeavesBare : Job R K S O → (R → B) → (Devices R K S B → Devices R K S B → Running R K S → Running R K S → Type 0) → Type 0
  LeavesBare job spell Steps =
      (old new : Devices R K S B) (run next : Running R K S) (at : Configuration R K S) →
      Steps old new run next → IsBare job spell old run at → IsBare job spell new (pruned_run next) at

  -- All steps but moves do. At a sink's copy the open transaction comes to be the last of the pre-committed, and the new
  -- one is empty; by a commit the first of the pre-committed comes to be the last of the committed.
  pub record OtherStepsStay (job : Job R K S O) (is_logged : ℕ → Bool) (spell : R → B) : Type 0 where
    pub barrier : (input : ℕ) → LeavesBare job spell (λ old new run next. EngineTakesBarrier input old new run next)
    pub copy : (task : ℕ) → LeavesBare job spell (λ old new run next. EngineCopies job is_logged task old new run next)
    pub trigger : LeavesBare job spell (λ old new run next. EngineTriggers old new run next)
    pub discard : (n : ℕ) → LeavesBare job spell (λ old new run next. EngineDiscards n old new run next)
    pub persist : (task : ℕ) → LeavesBare job spell (λ old new run next. EnginePersists job task old new run next)
    pub completion : LeavesBare job spell (λ old new run next. EngineCompletes job old new run next)
    pub commit : (task : ℕ) → LeavesBare job spell (λ old new run next. EngineCommits task old new run next)

  abbrev pub OtherStepsLeaveBare : Job R K S O → (R → B) → Type 0
  OtherStepsLeaveBare job spell = (is_logged : ℕ → Bool) → OtherStepsStay job is_logged spell

  -- a sound engine that runs stands for a configuration that the plain machine reaches
  abbrev pub SoundEnginesAreReached : Job R K S O → (R → B) → Type 0
  SoundEnginesAreReached job spell =
      (is_logged : ℕ → Bool) (devices : Devices R K S B) (run : Running R K S) → IsPrunedSound job is_logged spell devices (Some run) →
      (moves : List Move) × (at : Configuration R K S) × Reaches job moves start at × IsBare job spell devices run at

  -- each sink of such an engine has one open transaction
  abbrev pub SoundSinksHaveOneOpen : Job R K S O → (R → B) → Type 0
  SoundSinksHaveOneOpen job spell =
      (is_logged : ℕ → Bool) (devices : Devices R K S B) (run : Running R K S) (task : ℕ) → IsPrunedSound job is_logged spell devices (Some run) → IsSink job task →
      HasOneOpen (devices.sinks task)

  -- a step of an engine that runs keeps it sound
  abbrev pub PrunedRunsKeepSound : Job R K S O → (R → B) → Type 0
  PrunedRunsKeepSound job spell =
      (is_logged : ℕ → Bool) (old new : Devices R K S B) (run next : Running R K S) → HasReceivers job → RunningStep job is_logged spell old new run next →
      IsPrunedSound job is_logged spell old (Some run) → IsPrunedSound job is_logged spell new (Some (pruned_run next))

  -- a sink of a sound engine with no pre-committed transaction of a complete checkpoint has committed for the last one
  abbrev pub PrunedCommittedUpToLast : Job R K S O → (R → B) → Type 0
  PrunedCommittedUpToLast job spell =
      (is_logged : ℕ → Bool) (engine : Engine R K S B) (task : ℕ) → IsPrunedSound job is_logged spell engine.devices engine.running → IsSink job task →
      All (λ p. is_on engine.devices.store.line p.checkpoint ≡ false) (engine.devices.sinks task).pre_committed →
      length (engine.devices.sinks task).committed ≡ length engine.devices.store.line

  -- each sink of a sound engine has committed its output after some moves of the plain machine
  abbrev pub PrunedSinksCommitTheirOutput : Job R K S O → (R → B) → Type 0
  PrunedSinksCommitTheirOutput job spell =
      (is_logged : ℕ → Bool) (engine : Engine R K S B) (task : ℕ) → IsSink job task →
      IsPrunedSound job is_logged spell engine.devices engine.running → CommitsItsOutput job spell engine.devices task

  -- Steps of an engine that stays up are, seen without barriers and checkpoints, steps of the plain machine, or none.
  abbrev pub PrunedRunsArePlain : Job R K S O → (R → B) → Type 0
  PrunedRunsArePlain job spell =
      (is_logged : ℕ → Bool) (engines : List (Engine R K S B)) (old new : Engine R K S B) (run : Running R K S) (at : Configuration R K S) → HasReceivers job →
      PrunedLeads job is_logged spell old engines new → All (λ engine. engine.running ≡ None → ⊥) engines → IsPrunedSound job is_logged spell old.devices old.running →
      old.running ≡ Some run → IsBare job spell old.devices run at →
      (moves : List Move) × (next : Running R K S) × (after : Configuration R K S) × (new.running ≡ Some next) × Reaches job moves at after × IsBare job spell new.devices next after

  -- growing partitions leave the plain configuration as it is
  abbrev pub GrowthLeavesBare : Job R K S O → (R → B) → Type 0
  GrowthLeavesBare job spell =
      (partitions : ℕ → List R) (devices : Devices R K S B) (run : Running R K S) (at : Configuration R K S) → IsBare job spell devices run at → IsBare (over job partitions) spell devices run at

  -- an engine stands for one configuration, if different records are spelled differently
  abbrev pub BareIsOne : Job R K S O → (R → B) → Type 0
  BareIsOne job spell =
      (devices : Devices R K S B) (run : Running R K S) (one two : Configuration R K S) → SpellsOnce spell → IsBare job spell devices run one → IsBare job spell devices run two → one ≡ two

  -- What is held of a run, of which only sinks name transactions, takes each step that the run takes, and comes to hold the same
  abbrev pub StepsArePruned : Job R K S O → (R → B) → Type 0
  StepsArePruned job spell =
      (is_logged : ℕ → Bool) (old new : Devices R K S B) (run next : Running R K S) → OnlySinksName job run → RunningStep job is_logged spell old new run next →
      (middle : Running R K S) × RunningStep job is_logged spell old new (pruned_run run) middle × (pruned_run middle ≡ pruned_run next)

  -- so each step of an engine is a step of the engine as it is held
  abbrev pub EngineStepsArePruned : Job R K S O → (R → B) → Type 0
  EngineStepsArePruned job spell =
      (is_logged : ℕ → Bool) (old new : Engine R K S B) → ((run : Running R K S) → old.running ≡ Some run → OnlySinksName job run) →
      EngineStep job is_logged spell old new → PrunedStep job is_logged spell (pruned_engine old) (pruned_engine new)
