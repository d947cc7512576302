-- An accepted read or work is one plain step, of the named task and input; no other call, and none that is refused, moves the plain configuration.
use Rattle.std.specs.Prelude.{◌≡◌, ℕ, true, List, Some, Result}
use Rattle.alignment.specs.declared.input.Effect.{Effect}
use Rattle.checkpoint_model.specs.Headline.{SpellsOnce}
use Rattle.commit_sink.specs.Ledger.{Ledger}
use Rattle.dataflow_model.specs.Machine.{Configuration, Move, Read, Work, Reaches, start}
use Rattle.job_state.specs.Held.{Held}
use Rattle.snapshot_store.specs.Store.{Stored}
use Rattle.task_part.specs.declared.part.Part.{Part}
use Rattle.engine_model.specs.declared.fault.CoreFault.{CoreFault}
use Rattle.engine_model.specs.declared.persisted.Persisted.{Persisted}
use Rattle.engine_model.specs.Calls.{left_by, EndsRead, EndsOperate, EndsPutOut, EndsInject, EndsOperatorBarrier, EndsSinkBarrier, EndsPersist, EndsPersistSome, EndsTrigger, EndsComplete}
use Rattle.engine_model.specs.ByTests.{Tests, rules_by, RunsWith, IsOperatorTask, IsSinkTask}
use Rattle.engine_model.specs.Commits.{EndsCommit}
use Rattle.engine_model.specs.Language.{Language}
use Rattle.engine_model.specs.State.{State}
use Rattle.engine_model.specs.View.{job_of}
use Rattle.engine_plain.specs.Plain.{StandsFor, Stays, StepsIfOk}

module _ {R K S O : Type 0} where
  -- Of an engine that runs and holds this: each call, as it ends.
  pub record CallsOf (lang : Language R K S O) (s : State O R K S) (h : Held R K S) : Type 0 where
    -- a source reads its next record
    pub read : (k : Held R K S) (faults task : ℕ) (result : Result Unit CoreFault) → EndsRead s.graph task h k lang s.partitions result →
        StepsIfOk result lang (Read task) s (record s { held = left_by result (Some k); faults = faults })
    -- an operator works the first record of its input
    pub operate : (k : Held R K S) (faults task input channel : ℕ) (operator : O) (result : Result Unit CoreFault) → IsOperatorTask s task input channel operator → EndsOperate s.graph task h k input channel lang operator result →
        StepsIfOk result lang (Work task channel) s (record s { held = left_by result (Some k); faults = faults })
    -- so does a sink
    pub put_out : (k : Held R K S) (ledger : Ledger) (faults task input channel subtask : ℕ) (result : Result Unit CoreFault) → IsSinkTask s task input channel subtask → EndsPutOut task input h k channel s.ledger ledger lang.spelling result →
        StepsIfOk result lang (Work task channel) s (record s { held = left_by result (Some k); ledger = ledger; faults = faults })
    -- no other call is a plain step
    pub inject : (k : Held R K S) (faults task : ℕ) (result : Result Unit CoreFault) → EndsInject s.graph task h k result → Stays lang s (record s { held = left_by result (Some k); faults = faults })
    pub operator_barrier : (k : Held R K S) (faults task input channel : ℕ) (operator : O) (result : Result Effect CoreFault) → IsOperatorTask s task input channel operator → EndsOperatorBarrier s.graph task h k input channel result →
        Stays lang s (record s { held = left_by result (Some k); faults = faults })
    pub sink_barrier : (k : Held R K S) (ledger : Ledger) (faults task input channel subtask : ℕ) (result : Result Effect CoreFault) → IsSinkTask s task input channel subtask → EndsSinkBarrier task input h k channel subtask s.ledger ledger result →
        Stays lang s (record s { held = left_by result (Some k); ledger = ledger; faults = faults })
    pub trigger : (k : Held R K S) (stored : Stored) (faults : ℕ) (result : Result ℕ CoreFault) → EndsTrigger h k s.stored stored result → Stays lang s (record s { held = left_by result (Some k); stored = stored; faults = faults })
    pub persist : (k : Held R K S) (stored : Stored) (faults task : ℕ) (spelling : Part R K S → List ℕ) (result : Result Unit CoreFault) → EndsPersist s.graph task h k s.stored stored spelling result →
        Stays lang s (record s { held = left_by result (Some k); stored = stored; faults = faults })
    pub persist_some : (k : Held R K S) (stored : Stored) (faults task : ℕ) (spelling : Part R K S → List ℕ) (result : Result Persisted CoreFault) → EndsPersistSome s.graph task h k s.stored stored spelling result →
        Stays lang s (record s { held = left_by result (Some k); stored = stored; faults = faults })
    pub completion : (k : Held R K S) (stored : Stored) (faults : ℕ) (result : Result ℕ CoreFault) → EndsComplete h k s.stored stored result → Stays lang s (record s { held = left_by result (Some k); stored = stored; faults = faults })
    pub commit : (k : Held R K S) (ledger : Ledger) (faults subtask : ℕ) (result : Result Unit CoreFault) → EndsCommit s.graph subtask h k s.ledger ledger result →
        Stays lang s (record s { held = left_by result (Some k); ledger = ledger; faults = faults })
    -- whatever records partitions get
    pub append : (partitions : List (List R)) (faults : ℕ) → Stays lang s (record s { partitions = partitions; faults = faults })

  -- each call of an engine that keeps what every engine keeps
  abbrev pub CallsArePlain : Language R K S O → Type 0
  CallsArePlain lang = (tests : Tests R K S O) (s : State O R K S) (h : Held R K S) → RunsWith (rules_by lang tests) s h → CallsOf lang s h

  -- a fresh engine that runs stands for a configuration that the plain machine reaches
  abbrev pub FreshEnginesAreReached : Language R K S O → Type 0
  FreshEnginesAreReached lang =
      (tests : Tests R K S O) (s : State O R K S) (h : Held R K S) → RunsWith (rules_by lang tests) s h → s.is_fresh ≡ true →
      (moves : List Move) × (at : Configuration R K S) × Reaches (job_of lang s) moves start at × StandsFor lang s at

  -- an engine's data stand for one configuration, if different records are spelled differently
  abbrev pub StandForOne : Language R K S O → Type 0
  StandForOne lang = (s : State O R K S) (one other : Configuration R K S) → SpellsOnce lang.spelling → StandsFor lang s one → StandsFor lang s other → one ≡ other
