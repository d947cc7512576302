-- How reading the parts ends, and settling the transactions.
use Rattle.std.specs.Prelude.{◌≡◌, ◌⊎◌, ◌<◌, ℕ, List, [], ◌∷◌, ◌++◌, Option, Some, None, Result, Ok, Err, IsSome, length, slice_get}
use Rattle.abs_codec.specs.Reading.{whole_of}
use Rattle.abs_codec.specs.declared.fault.CodecFault.{CodecFault}
use Rattle.abs_codec.specs.declared.fault.CodecFault.TheVariants.{BadTag}
use Rattle.commit_sink.specs.Ledger.{Ledger}
use Rattle.engine_model.specs.AllRules.{AllRules}
use Rattle.engine_model.specs.Language.{Language}
use Rattle.engine_model.specs.Restart.{InTurn, AreStarts, IsInPart, SettlesPartly, NamesOther, Suits, Takes, first_start, part_for, logs_in, openings_of, TakeSome, TakeUntilRefused, before_tasks}
use Rattle.engine_model.specs.declared.fault.CoreFault.{CoreFault}
use Rattle.engine_model.specs.declared.fault.CoreFault.TheVariants as core
use Rattle.engine_model.specs.declared.start.Start.{Start}
use Rattle.engine_model.specs.declared.start.Start.TheVariants as start
use Rattle.job_graph.specs.Expanded.{Expanded}
use Rattle.job_graph.specs.declared.role.Role.{Role}
use Rattle.job_state.specs.declared.holding.Holding.{Holding}
use Rattle.settlement.specs.declared.fault.SettlementFault.{SettlementFault}
use Rattle.settlement.specs.declared.fault.SettlementFault.TheVariants as settlement
use Rattle.snapshot_store.specs.Store.{Stored, IsLatest, part_of}
use Rattle.task_part.specs.Spelling.{Logs}
use Rattle.task_part.specs.declared.part.Part.{Part}
use Rattle.recovery.specs.declared.fault.RecoveryFault.{RecoveryFault}
use Rattle.recovery.specs.declared.fault.RecoveryFault.TheVariants.{Fault, MissingPart, Damaged, Memory}

-- as the engine answers it
abbrev pub core_fault : RecoveryFault → CoreFault
core_fault Fault = core.Device
core_fault MissingPart = core.BadSnapshot
core_fault (Damaged task fault) = core.BadSnapshot
core_fault Memory = core.Memory

-- a sink's transactions were not settled
abbrev pub sink_fault : ℕ → SettlementFault → RecoveryFault
sink_fault task settlement.Fault = Fault
sink_fault task settlement.NamesOther = Damaged task BadTag
sink_fault task settlement.Memory = Memory

module _ {R K S O : Type 0} (lang : Language R K S O) (stored : Stored) where
  -- a task's part of a checkpoint is there, and reads as this
  abbrev pub IsReadAs : ℕ → ℕ → Result (Part R K S) CodecFault → Type 0
  IsReadAs number task read = (bytes : List ℕ) × (part_of stored number task ≡ Some bytes) × (whole_of lang.read_part bytes ≡ read)

  -- what reading it answers
  abbrev pub EndsReading : ℕ → ℕ → Result (Part R K S) RecoveryFault → Type 0
  EndsReading number task (Ok p) = IsReadAs number task (Ok p)
  EndsReading number task (Err Fault) = Unit {0}
  EndsReading number task (Err MissingPart) = part_of stored number task ≡ None
  EndsReading number task (Err (Damaged which fault)) = (which ≡ task) × IsReadAs number task (Err fault)
  EndsReading number task (Err Memory) = IsSome (part_of stored number task)

module _ {R K S O : Type 0} (rules : AllRules R K S O) (graph : Expanded) (operators : List O) (partitions : List (List R)) (stored : Stored) where
  -- the bytes spell a part, but one that the task can't start from
  pub record SaysNoStart (number task : ℕ) (r : Role) : Type 0 where
    pub part : Part R K S
    pub reads : IsReadAs rules.lang stored number task (Ok part)
    pub no_start : (st : Start R K S) → part ≡ part_for st → Suits rules graph operators partitions task r st → ⊥

  -- the bytes spell no part, by this fault; or one that the task can't start from
  abbrev pub IsDamage : ℕ → ℕ → Role → CodecFault → Type 0
  IsDamage number task r fault = IsReadAs rules.lang stored number task (Err fault) ⊎ ((fault ≡ BadTag) × SaysNoStart number task r)

  -- what reading and judging one task's part of a checkpoint answers
  abbrev pub EndsPart : ℕ → ℕ → Role → Result (Start R K S) RecoveryFault → Type 0
  EndsPart number task r (Ok st) = IsInPart rules graph operators partitions stored number task r st
  EndsPart number task r (Err Fault) = Unit {0}
  EndsPart number task r (Err MissingPart) = part_of stored number task ≡ None
  EndsPart number task r (Err (Damaged which fault)) = (which ≡ task) × IsDamage number task r fault
  EndsPart number task r (Err Memory) = IsSome (part_of stored number task)

  abbrev pub EndsTask : Option ℕ → ℕ → Role → Result (Start R K S) RecoveryFault → Type 0
  EndsTask None task r (Ok st) = st ≡ first_start r
  EndsTask None task r (Err other) = ⊥
  EndsTask (Some number) task r result = EndsPart number task r result

  -- a task's part of the last complete checkpoint is not there
  pub record LacksPart : Type 0 where
    pub last : ℕ
    pub latest : IsLatest stored (Some last)
    pub task : ℕ
    pub role : Role
    pub is_task : slice_get graph.tasks task ≡ Some role
    pub missing : part_of stored last task ≡ None

  -- it spells no part, by this fault; or it spells one that the task can't start from
  pub record HasDamage (task : ℕ) (fault : CodecFault) : Type 0 where
    pub last : ℕ
    pub latest : IsLatest stored (Some last)
    pub role : Role
    pub is_task : slice_get graph.tasks task ≡ Some role
    pub damage : IsDamage last task role fault

  -- why the parts can't be read
  abbrev pub CannotRestore : RecoveryFault → Type 0
  CannotRestore Fault = Unit {0}
  CannotRestore MissingPart = LacksPart
  CannotRestore (Damaged task fault) = HasDamage task fault
  CannotRestore Memory = Unit {0}

  -- what reading them answers
  abbrev pub EndsRestore : Result (Option ℕ × List (Start R K S)) RecoveryFault → Type 0
  EndsRestore (Ok x) = AreStarts rules graph operators partitions stored x.0 x.1
  EndsRestore (Err f) = CannotRestore f

-- a sink's subtask is one of so many
abbrev pub IsBelow : {R K S : Type 0} → ℕ → Start R K S → Type 0
IsBelow count (start.Source offset) = Unit {0}
IsBelow count (start.Operator entries logs) = Unit {0}
IsBelow count (start.Sink subtask names logs) = subtask < count

module _ (old new : Ledger) where
  -- a sink of this task names a transaction that may not be committed: its part is damaged
  abbrev pub StopsSink : ℕ → List ℕ → ℕ → CodecFault → Type 0
  StopsSink task names which fault = (which ≡ task) × (fault ≡ BadTag) × NamesOther names old new

  module _ {R K S : Type 0} where
    -- one task, with the logs that it starts from
    abbrev pub EndsTake : ℕ → Start R K S → Result (Holding K S × Logs R) RecoveryFault → Type 0
    EndsTake task st (Ok x) = ((tasks : List (Holding K S)) → Takes st (record { ledger = old; tasks = tasks }) (record { ledger = new; tasks = tasks ++ x.0 ∷ [] })) × (x.1 ≡ logs_in st)
    EndsTake task st (Err MissingPart) = ⊥
    EndsTake task st (Err (Damaged which fault)) = (subtask : ℕ) × (names : List ℕ) × (logs : Logs R) × (st ≡ start.Sink subtask names logs) × StopsSink task names which fault
    EndsTake task st (Err other) = (subtask : ℕ) × (names : List ℕ) × (logs : Logs R) × (st ≡ start.Sink subtask names logs) × SettlesPartly names subtask old new

    -- all of them have, or this stopped them
    abbrev pub TakeAll : List (Start R K S) → List (Holding K S) × Logs R → Type 0
    TakeAll starts x = InTurn Takes starts (before_tasks old) (record { ledger = new; tasks = x.0 }) × (x.1 ≡ openings_of starts)

    -- the part of the sink that was met next is damaged
    abbrev pub StopAtSink : List (Start R K S) → ℕ → CodecFault → Type 0
    StopAtSink starts task fault = (until : TakeUntilRefused starts old new) × (task ≡ length until.taken.done) × (fault ≡ BadTag)

    abbrev pub StopTaking : List (Start R K S) → RecoveryFault → Type 0
    StopTaking starts Fault = TakeSome starts old new
    StopTaking starts MissingPart = ⊥
    StopTaking starts (Damaged task fault) = StopAtSink starts task fault
    StopTaking starts Memory = TakeSome starts old new
