-- How a restart ends: what the tasks start from, by the parts of the last complete checkpoint, and what becomes of the transactions.
use Rattle.std.specs.Prelude.{◌≡◌, ◌≢◌, ◌⊎◌, ◌+◌, ◌<◌, ◌≤◌, ℕ, List, [], ◌∷◌, ◌++◌, length, flat_map, slice_get, Option, Some, None, Result, Ok, Err}
use Rattle.abs_codec.specs.Entries.{value_at}
use Rattle.abs_codec.specs.Reading.{whole_of}
use Rattle.commit_sink.specs.Ledger.{Ledger, IsOrdered, after_commit, commit_refusal, aborted, abort_refusal, begun, unsettled_of}
use Rattle.job_graph.specs.Expanded.{Expanded}
use Rattle.job_graph.specs.declared.role.Role.{Role}
use Rattle.job_graph.specs.declared.role.Role.TheVariants as role
use Rattle.job_state.specs.Held as held
use Rattle.job_state.specs.Held.{Held}
use Rattle.job_state.specs.declared.holding.Holding.{Holding}
use Rattle.job_state.specs.declared.holding.Holding.TheVariants as holds
use Rattle.snapshot_store.specs.Store.{Stored, IsLatest, part_of}
use Rattle.source_log.specs.Partitions.{records_at}
use Rattle.task_part.specs.Spelling.{Logs}
use Rattle.task_part.specs.declared.part.Part.{Part}
use Rattle.task_part.specs.declared.part.Part.TheVariants as part
use Rattle.engine_model.specs.AllRules.{AllRules, IsGood}
use Rattle.engine_model.specs.Keeps.{LogsSuit}
use Rattle.engine_model.specs.declared.fault.CoreFault.{CoreFault}
use Rattle.engine_model.specs.declared.fault.CoreFault.TheVariants.{Memory, Device, BadSnapshot}
use Rattle.engine_model.specs.declared.start.Start.{Start}
use Rattle.engine_model.specs.declared.start.Start.TheVariants as start

-- ---- one after another

module _ {L A : Type 0} (Step : A → L → L → Type 0) where
  -- a step for each of them, one after another
  abbrev pub InTurn : List A → L → L → Type 0
  InTurn [] old new = new ≡ old
  InTurn (x ∷ xs) old new = (middle : L) × Step x old middle × InTurn xs middle new

  -- a step for some of them, from the first
  pub record UpTo (all : List A) (old new : L) : Type 0 where
    pub done : List A
    pub rest : List A
    pub are : all ≡ done ++ rest
    pub turns : InTurn done old new

-- ---- what tasks start from

module _ {R K S : Type 0} where
  -- where no checkpoint is complete
  abbrev pub first_start : Role → Start R K S
  first_start (role.Source partition) = start.Source 0
  first_start (role.Operator number) = start.Operator [] []
  first_start (role.Sink subtask) = start.Sink subtask [] []

  -- the part that says so
  abbrev pub part_for : Start R K S → Part R K S
  part_for (start.Source offset) = part.Source offset
  part_for (start.Operator entries logs) = part.Operator entries logs
  part_for (start.Sink subtask names logs) = part.Sink names logs

  -- what a task starts from of its inputs' logs
  abbrev pub logs_in : Start R K S → Logs R
  logs_in (start.Source offset) = []
  logs_in (start.Operator entries logs) = logs
  logs_in (start.Sink subtask names logs) = logs

  -- and all tasks
  abbrev pub openings_of : List (Start R K S) → Logs R
  openings_of starts = flat_map logs_in starts

module _ {R K S O : Type 0} (rules : AllRules R K S O) (graph : Expanded) (operators : List O) (partitions : List (List R)) where
  -- The start is one for the task: a source's offset is within its partition, an operator's keys fit and it can go on from its states, and
  -- the logs are those of the task's marked inputs, with records that fit.
  abbrev pub Suits : ℕ → Role → Start R K S → Type 0
  Suits task (role.Source partition) (start.Source offset) = (partition < length partitions) × (offset ≤ length (records_at partitions partition))
  Suits task (role.Operator number) (start.Operator entries logs) =
      (operator : O) × (slice_get operators number ≡ Some operator) × ((key : K) (state : S) → value_at rules.lang.cmp entries key ≡ Some state → rules.KeyFits key × IsGood rules operator state) × LogsSuit rules.RecordFits graph task logs
  Suits task (role.Sink subtask) (start.Sink number names logs) = (number ≡ subtask) × LogsSuit rules.RecordFits graph task logs
  Suits task r st = ⊥

  module _ (stored : Stored) where
    -- a task's part of a checkpoint is there, and says this start
    pub record IsInPart (number task : ℕ) (r : Role) (st : Start R K S) : Type 0 where
      pub bytes : List ℕ
      pub is_part : part_of stored number task ≡ Some bytes
      pub reads : whole_of rules.lang.read_part bytes ≡ Ok (part_for st)
      pub suits : Suits task r st

    -- a task's start, by its part of the last complete checkpoint, if there is one
    abbrev pub IsStart : Option ℕ → ℕ → Role → Start R K S → Type 0
    IsStart None task r st = st ≡ first_start r
    IsStart (Some number) task r st = IsInPart number task r st

    -- each task has one
    pub record AreStarts (last : Option ℕ) (starts : List (Start R K S)) : Type 0 where
      pub latest : IsLatest stored last
      pub one_each : length starts ≡ length graph.tasks
      pub each : (task : ℕ) (r : Role) (st : Start R K S) → slice_get graph.tasks task ≡ Some r → slice_get starts task ≡ Some st → IsStart last task r st

    -- A task's part of the last complete checkpoint says no start for the task, or isn't there.
    pub record IsBroken (task : ℕ) : Type 0 where
      pub last : ℕ
      pub latest : IsLatest stored (Some last)
      pub role : Role
      pub is_task : slice_get graph.tasks task ≡ Some role
      pub no_start : (st : Start R K S) → IsInPart last task role st → ⊥

-- ---- what becomes of the transactions

-- a transaction that may be committed is
pub record CommitsNext (number : ℕ) (old new : Ledger) : Type 0 where
  pub may : commit_refusal old number ≡ None
  pub ends : new ≡ after_commit old number
  pub ordered : IsOrdered new

-- a transaction that may be aborted is
pub record AbortsNext (unsettled : ℕ × Option ℕ) (old new : Ledger) : Type 0 where
  pub may : abort_refusal old unsettled.0 ≡ None
  pub ends : new ≡ aborted old unsettled.0
  pub ordered : IsOrdered new

-- A sink's transactions: those that are named are committed, the oldest first, every other that is neither committed nor aborted is aborted,
-- and one is opened.
pub record Settles (names : List ℕ) (subtask opened : ℕ) (old new : Ledger) : Type 0 where
  pub named : Ledger
  pub rest : Ledger
  pub commits : InTurn CommitsNext names old named
  pub aborts : InTurn AbortsNext (unsettled_of named subtask) named rest
  pub is_next : opened ≡ length rest.transactions + 1
  pub begins : new ≡ begun rest subtask
  pub ordered : IsOrdered new

-- those that are named are committed, and some others are aborted
pub record AbortsSome (names : List ℕ) (subtask : ℕ) (old new : Ledger) : Type 0 where
  pub named : Ledger
  pub commits : InTurn CommitsNext names old named
  pub aborts : UpTo AbortsNext (unsettled_of named subtask) named new

-- a device failed, or memory was refused, on the way there, or once it was there
abbrev pub SettlesPartly : List ℕ → ℕ → Ledger → Ledger → Type 0
SettlesPartly names subtask old new = UpTo CommitsNext names old new ⊎ (AbortsSome names subtask old new ⊎ ((opened : ℕ) × Settles names subtask opened old new))

-- one that is named may not be committed
pub record NamesOther (names : List ℕ) (old new : Ledger) : Type 0 where
  pub commits : UpTo CommitsNext names old new
  pub name : ℕ
  pub more : List ℕ
  pub next : commits.rest ≡ name ∷ more
  pub refused : commit_refusal new name ≢ None

-- the transactions, and what the tasks so far hold
pub record Settling (K S : Type 0) : Type 0 where
  pub ledger : Ledger
  pub tasks : List (Holding K S)

abbrev pub before_tasks : {K S : Type 0} → Ledger → Settling K S
before_tasks ledger = record { ledger = ledger; tasks = [] }

module _ {R K S : Type 0} where
  -- a task takes what it starts from; a sink settles its transactions
  abbrev pub Takes : Start R K S → Settling K S → Settling K S → Type 0
  Takes (start.Source offset) old new = new ≡ record { ledger = old.ledger; tasks = old.tasks ++ holds.Source offset ∷ [] }
  Takes (start.Operator entries logs) old new = new ≡ record { ledger = old.ledger; tasks = old.tasks ++ holds.Operator entries ∷ [] }
  Takes (start.Sink subtask names logs) old new = (opened : ℕ) × Settles names subtask opened old.ledger new.ledger × (new.tasks ≡ old.tasks ++ holds.Sink (record { open_one = opened; pending = [] }) ∷ [])

  -- some tasks have taken what they start from; then the next, a sink, has settled some of its transactions, if anything
  pub record TakeSome (starts : List (Start R K S)) (old new : Ledger) : Type 0 where
    pub middle : Settling K S
    pub taken : UpTo Takes starts (before_tasks old) middle
    pub either : (new ≡ middle.ledger) ⊎ ((subtask : ℕ) × (names : List ℕ) × (logs : Logs R) × (more : List (Start R K S)) × (taken.rest ≡ start.Sink subtask names logs ∷ more) × SettlesPartly names subtask middle.ledger new)

  -- some tasks have; the next, a sink, names a transaction that may not be committed
  pub record TakeUntilRefused (starts : List (Start R K S)) (old new : Ledger) : Type 0 where
    pub middle : Settling K S
    pub taken : UpTo Takes starts (before_tasks old) middle
    pub subtask : ℕ
    pub names : List ℕ
    pub logs : Logs R
    pub more : List (Start R K S)
    pub next : taken.rest ≡ start.Sink subtask names logs ∷ more
    pub refused : NamesOther names middle.ledger new

-- ---- the whole

module _ {R K S O : Type 0} (rules : AllRules R K S O) (graph : Expanded) (operators : List O) (partitions : List (List R)) (stored : Stored) (old new : Ledger) where
  -- The attempt: each task holds what it starts from, and the back-edges hold the logs.
  pub record Restarts (last : Option ℕ) (k : Held R K S) : Type 0 where
    pub starts : List (Start R K S)
    pub are : AreStarts rules graph operators partitions stored last starts
    pub take : InTurn Takes starts (before_tasks old) (record { ledger = new; tasks = k.tasks })
    pub ends : k ≡ held.begun graph k.tasks (openings_of starts) last

  -- the tasks' starts are there, and some have taken theirs
  pub record RestartsPartly (After : List (Start R K S) → Type 0) : Type 0 where
    pub last : Option ℕ
    pub starts : List (Start R K S)
    pub are : AreStarts rules graph operators partitions stored last starts
    pub then_ends : After starts

  -- what a restart answers, and what it leaves of the transactions; the store stays
  abbrev pub EndsRestart : Result (Option ℕ × Held R K S) CoreFault → Type 0
  EndsRestart (Ok x) = Restarts x.0 x.1
  EndsRestart (Err Memory) = (new ≡ old) ⊎ RestartsPartly (λ starts. TakeSome starts old new)
  EndsRestart (Err Device) = (new ≡ old) ⊎ RestartsPartly (λ starts. TakeSome starts old new)
  EndsRestart (Err BadSnapshot) = (((task : ℕ) × IsBroken rules graph operators partitions stored task) × (new ≡ old)) ⊎ RestartsPartly (λ starts. TakeUntilRefused starts old new)
  EndsRestart (Err other) = ⊥
