-- Which work is a task's to do now, and how work is offered and a result is taken.
use Rattle.std.specs.Prelude.{◌≡◌, ◌<◌, ℕ, List, length, min, map, take, drop, slice_get, Option, Some, None, Result, Ok, Err, Vec}
use Rattle.std.specs.declared.alloc.Global.{Global}
use Rattle.channels.specs.Items.{leading_records}
use Rattle.commit_sink.specs.Ledger.{Ledger}
use Rattle.job_graph.specs.Expanded.{Expanded}
use Rattle.job_graph.specs.declared.role.Role.{Role}
use Rattle.job_graph.specs.declared.role.Role.TheVariants as role
use Rattle.job_state.specs.Held.{Held}
use Rattle.job_state.specs.declared.holding.Holding.TheVariants as holds
use Rattle.job_state.specs.Sending.{items_at}
use Rattle.engine_model.specs.Batch.{AreRecordsDue, OperatesOn}
use Rattle.engine_model.specs.Calls.{input_at, IsBlocked, NoRecord, IsRecordDue}
use Rattle.engine_model.specs.Language.{Language}
use Rattle.engine_model.specs.declared.fault.CoreFault.{CoreFault}
use Rattle.engine_model.specs.declared.fault.CoreFault.TheVariants.{NoSuchTask, NotReady, ChannelBlocked, WrongResult, Memory, Device}
use Rattle.claims.specs.Carried.{AreStatesOf}
use Rattle.claims.specs.Tasks.{EndsWork}
use Rattle.claims.specs.declared.parts.Operand.{Operand}
use Rattle.claims.specs.declared.parts.Given.{Given}
use Rattle.claims.specs.declared.parts.Given.TheVariants as given
use Rattle.claims.specs.declared.parts.Made.{Made}
use Rattle.claims.specs.declared.parts.Made.TheVariants as made

-- an operator, or a sink
abbrev pub IsWorker : Option Role → Type 0
IsWorker (Some (role.Operator number)) = Unit {0}
IsWorker (Some (role.Sink subtask)) = Unit {0}
IsWorker (Some (role.Source partition)) = ⊥
IsWorker None = ⊥

-- the task is an operator or a sink, and its input is this channel
abbrev pub WorksFrom : Expanded → (task input channel : ℕ) → Type 0
WorksFrom graph task input channel = IsWorker (slice_get graph.tasks task) × (input_at graph task input ≡ Some channel)

-- the task is a sink, the input is this channel, and the record is the next to take from it
pub record IsRowDue {R K S : Type 0} (graph : Expanded) (task input : ℕ) (h : Held R K S) (channel : ℕ) (row : R) : Type 0 where
  pub subtask : ℕ
  pub is_sink : slice_get graph.tasks task ≡ Some (role.Sink subtask)
  pub leads : input_at graph task input ≡ Some channel
  pub first : IsRecordDue task input h channel row

-- the task is a sink, and its input is this channel
abbrev pub SinksFrom : Expanded → (task input channel : ℕ) → Type 0
SinksFrom graph task input channel = (subtask : ℕ) × (slice_get graph.tasks task ≡ Some (role.Sink subtask)) × (input_at graph task input ≡ Some channel)

-- so many records at most that stand behind the first of a channel, before the first barrier
abbrev pub rows_behind : {R K S : Type 0} → Held R K S → (channel most : ℕ) → List R
rows_behind h channel most = take most (drop 1 (leading_records (items_at h.channels channel)))

module _ {R K S : Type 0} (graph : Expanded) (task input most : ℕ) (h : Held R K S) where
  -- the work on these records of a sink's input is offered, in their order, or why it is not is told
  abbrev pub EndsOfferBehind : {O : Type 0} → Result (Vec (Given O K S R) Global) CoreFault → Type 0
  EndsOfferBehind (Ok works) = (channel : ℕ) × SinksFrom graph task input channel × (works.items ≡ map given.Sink (rows_behind h channel most))
  EndsOfferBehind (Err NoSuchTask) = (channel : ℕ) → ¬ SinksFrom graph task input channel
  EndsOfferBehind (Err Memory) = (channel : ℕ) × SinksFrom graph task input channel × (0 < length (rows_behind h channel most))
  EndsOfferBehind (Err other) = ⊥

-- whether there is such a task and input is answered
abbrev pub EndsAsking : Expanded → (task input : ℕ) → Result Unit CoreFault → Type 0
EndsAsking graph task input (Ok u) = (channel : ℕ) × WorksFrom graph task input channel
EndsAsking graph task input (Err NoSuchTask) = (channel : ℕ) → ¬ WorksFrom graph task input channel
EndsAsking graph task input (Err other) = ⊥

-- The task is this operator and has these states, the input is this channel, and the records are the next to take from it: the work is
-- due if the states that it was given are the task's.
pub record IsDueOn {R K S O : Type 0} (graph : Expanded) (operators : List O) (task input : ℕ) (h : Held R K S) (channel : ℕ) (entries : List (K × S)) (p : Operand O K S R) : Type 0 where
  pub number : ℕ
  pub is_operator : slice_get graph.tasks task ≡ Some (role.Operator number)
  pub same_operator : slice_get operators number ≡ Some p.operator
  pub leads : input_at graph task input ≡ Some channel
  pub first : AreRecordsDue task input h channel p.rows.items
  pub was : slice_get h.tasks task ≡ Some (holds.Operator entries)

module _ {R K S O : Type 0} (lang : Language R K S O) (graph : Expanded) (operators : List O) (task input : ℕ) (h : Held R K S) where
  -- The task is this operator, the input is this channel, from which the records are the next to take, and the task has these states.
  pub record IsOperandDue (channel : ℕ) (p : Operand O K S R) : Type 0 where
    pub number : ℕ
    pub entries : List (K × S)
    pub is_operator : slice_get graph.tasks task ≡ Some (role.Operator number)
    pub same_operator : slice_get operators number ≡ Some p.operator
    pub leads : input_at graph task input ≡ Some channel
    pub first : AreRecordsDue task input h channel p.rows.items
    pub was : slice_get h.tasks task ≡ Some (holds.Operator entries)
    pub same_states : AreStatesOf lang.cmp entries p.states

  -- this work is what the task would work at the input now
  abbrev pub IsDue : Given O K S R → Type 0
  IsDue (given.Operator operand) = (channel : ℕ) × IsOperandDue channel operand
  IsDue (given.Sink row) = (channel : ℕ) × IsRowDue graph task input h channel row

  -- an operator's work takes all records before the first barrier, or so many where there are more; it takes one at least
  abbrev pub TakesMost : (most : ℕ) → Given O K S R → Type 0
  TakesMost most (given.Operator operand) = (0 < length operand.rows.items) × ((channel : ℕ) × (input_at graph task input ≡ Some channel) × (length operand.rows.items ≡ min most (length (leading_records (items_at h.channels channel)))))
  TakesMost most (given.Sink row) = Unit {0}

  -- the work that is due is offered, of so many records at most
  abbrev pub EndsOffer : (most : ℕ) → Result (Given O K S R) CoreFault → Type 0
  EndsOffer most (Ok work) = IsDue work × TakesMost most work
  EndsOffer most (Err NoSuchTask) = (channel : ℕ) → ¬ WorksFrom graph task input channel
  EndsOffer most (Err ChannelBlocked) = (channel : ℕ) × WorksFrom graph task input channel × IsBlocked task input h
  EndsOffer most (Err NotReady) = (channel : ℕ) × WorksFrom graph task input channel × ¬ IsBlocked task input h × NoRecord h channel
  EndsOffer most (Err Memory) = (channel : ℕ) × (row : R) × WorksFrom graph task input channel × IsRecordDue task input h channel row
  EndsOffer most (Err other) = ⊥

  module _ (k : Held R K S) (old new : Ledger) where
    -- an operator has worked all its records, in so many steps
    pub record WorksRecords (p : Operand O K S R) : Type 0 where
      pub channel : ℕ
      pub due : IsOperandDue channel p
      pub works : OperatesOn lang p.operator graph task input channel p.rows.items h k
      pub stays : new ≡ old

    -- the work is done
    abbrev pub TakesWork : Given O K S R → Type 0
    TakesWork (given.Operator operand) = WorksRecords operand
    TakesWork (given.Sink row) = IsDue (given.Sink row) × EndsWork lang graph operators task input h k old new (Ok tt)

    -- the device failed, which only a sink uses
    abbrev pub FailsWork : Given O K S R → Type 0
    FailsWork (given.Operator operand) = ⊥
    FailsWork (given.Sink row) = IsDue (given.Sink row) × EndsWork lang graph operators task input h k old new (Err Device)

    -- a result is taken where its work is due
    abbrev pub EndsTaking : Given O K S R → Result Unit CoreFault → Type 0
    EndsTaking work (Ok u) = TakesWork work
    EndsTaking work (Err WrongResult) = ¬ IsDue work × (k ≡ h) × (new ≡ old)
    EndsTaking work (Err Memory) = IsDue work × (k ≡ h) × (new ≡ old)
    EndsTaking work (Err Device) = FailsWork work
    EndsTaking work (Err other) = ⊥

    -- memory was refused: nothing is taken
    abbrev pub EndsRefused : Given O K S R → Result Unit CoreFault → Type 0
    EndsRefused work (Err WrongResult) = ¬ IsDue work × (k ≡ h) × (new ≡ old)
    EndsRefused work (Err Memory) = IsDue work × (k ≡ h) × (new ≡ old)
    EndsRefused work other = ⊥

    abbrev pub EndsAccept : Made O K S R → Result Unit CoreFault → Type 0
    EndsAccept (made.Operator solved) result = EndsTaking (given.Operator solved.operand) result
    EndsAccept (made.Sink row bytes) result = EndsTaking (given.Sink row) result
    EndsAccept (made.Refused work) result = EndsRefused work result
