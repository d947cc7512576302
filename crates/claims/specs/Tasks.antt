-- How the calls end in which a task takes what stands at the head of its input.
use Rattle.std.specs.Prelude.{◌≡◌, ℕ, List, Option, Some, None, Result, Err, count_by, slice_get}
use Rattle.alignment.specs.declared.input.Effect.{Effect}
use Rattle.commit_sink.specs.Ledger.{Ledger}
use Rattle.commit_sink.specs.Sink.{Sinking}
use Rattle.job_graph.specs.Expanded.{Expanded, IsExpanded, is_sink}
use Rattle.job_graph.specs.PlainGraph.{HaveOperators}
use Rattle.job_graph.specs.declared.role.Role.{Role}
use Rattle.job_graph.specs.declared.role.Role.TheVariants as role
use Rattle.job_state.specs.Held.{Held}
use Rattle.job_state.specs.declared.holding.Holding.TheVariants as holds
use Rattle.engine_model.specs.AllRules.{AllRules}
use Rattle.engine_model.specs.Calls.{input_at, IsBlocked, NoRecord, EndsOperate, EndsPutOut, EndsOperatorBarrier, EndsSinkBarrier}
use Rattle.engine_model.specs.Keeps.{Shape, SinkIn}
use Rattle.engine_model.specs.Language.{Language}
use Rattle.engine_model.specs.declared.fault.CoreFault.{CoreFault}
use Rattle.engine_model.specs.declared.fault.CoreFault.TheVariants.{NoSuchTask, NotReady, ChannelBlocked}

-- what a running job holds, by its graph, its operators and its transactions
pub record Serves {R K S O : Type 0} (rules : AllRules R K S O) (graph : Expanded) (operators : List O) (ledger : Ledger) (held : Held R K S) : Type 0 where
  pub expanded : IsExpanded graph
  pub given : HaveOperators graph operators
  pub subtasks : ledger.subtasks ≡ count_by is_sink graph.tasks
  pub shape : Shape rules graph operators held
  pub sinks : (task subtask : ℕ) (sink : Sinking) → slice_get graph.tasks task ≡ Some (role.Sink subtask) → slice_get held.tasks task ≡ Some (holds.Sink sink) → SinkIn ledger subtask sink

module _ {R K S : Type 0} (task input channel : ℕ) (h : Held R K S) where
  -- the input is blocked, or no record stands first
  abbrev pub RefusesRecord : CoreFault → Type 0
  RefusesRecord ChannelBlocked = IsBlocked task input h
  RefusesRecord NotReady = ¬ IsBlocked task input h × NoRecord h channel
  RefusesRecord other = ⊥

module _ {R K S T : Type 0} (h k : Held R K S) (old new : Ledger) (result : Result T CoreFault) where
  -- the task has no input of that number
  abbrev pub NoSuchInput : Type 0
  NoSuchInput = (result ≡ Err NoSuchTask) × (k ≡ h) × (new ≡ old)

module _ {R K S : Type 0} (graph : Expanded) (task input : ℕ) (h k : Held R K S) (old new : Ledger) where
  -- an operator works, or a sink puts a record out
  module _ {O : Type 0} (lang : Language R K S O) (operators : List O) (result : Result Unit CoreFault) where
    abbrev pub WorksAs : Option Role → Option ℕ → Type 0
    WorksAs (Some (role.Operator number)) (Some channel) = (operator : O) × (slice_get operators number ≡ Some operator) × EndsOperate graph task h k input channel lang operator result × (new ≡ old)
    WorksAs (Some (role.Operator number)) None = NoSuchInput h k old new result
    WorksAs (Some (role.Sink subtask)) (Some channel) = EndsPutOut task input h k channel old new lang.spelling result
    WorksAs (Some (role.Sink subtask)) None = NoSuchInput h k old new result
    WorksAs (Some (role.Source partition)) channel = NoSuchInput h k old new result
    WorksAs None channel = NoSuchInput h k old new result

  -- an operator or a sink takes the barrier
  abbrev pub TakesAs : Result Effect CoreFault → Option Role → Option ℕ → Type 0
  TakesAs result (Some (role.Operator number)) (Some channel) = EndsOperatorBarrier graph task h k input channel result × (new ≡ old)
  TakesAs result (Some (role.Operator number)) None = NoSuchInput h k old new result
  TakesAs result (Some (role.Sink subtask)) (Some channel) = EndsSinkBarrier task input h k channel subtask old new result
  TakesAs result (Some (role.Sink subtask)) None = NoSuchInput h k old new result
  TakesAs result (Some (role.Source partition)) channel = NoSuchInput h k old new result
  TakesAs result None channel = NoSuchInput h k old new result

module _ {R K S O : Type 0} where
  -- a task works the first record of an input
  abbrev pub EndsWork : Language R K S O → Expanded → List O → ℕ → ℕ → Held R K S → Held R K S → Ledger → Ledger → Result Unit CoreFault → Type 0
  EndsWork lang graph operators task input h k old new result = WorksAs graph task input h k old new lang operators result (slice_get graph.tasks task) (input_at graph task input)

module _ {R K S : Type 0} where
  -- a task takes the barrier at the head of an input
  abbrev pub EndsBarrier : Expanded → ℕ → ℕ → Held R K S → Held R K S → Ledger → Ledger → Result Effect CoreFault → Type 0
  EndsBarrier graph task input h k old new result = TakesAs graph task input h k old new result (slice_get graph.tasks task) (input_at graph task input)
