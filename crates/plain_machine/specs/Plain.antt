-- The program's values, as a job and a configuration of the machine.
use Rattle.std.specs.Prelude.{◌≡◌, ◌++◌, ℕ, List, [], map, slice_get, Option, Some, None, Vec}
use Rattle.std.specs.BTreeMap as tree
use Rattle.std.specs.declared.cmp.Ordering.{Ordering}
use Rattle.plain_machine.specs.declared.job.Channel as code_channel
use Rattle.plain_machine.specs.declared.job.Configuration as code_configuration
use Rattle.plain_machine.specs.declared.job.Job as code_job
use Rattle.plain_machine.specs.declared.job.Move as code_move
use Rattle.plain_machine.specs.declared.job.Move.TheVariants as moves
use Rattle.plain_machine.specs.declared.job.Route as code_route
use Rattle.plain_machine.specs.declared.job.Route.TheVariants as routes
use Rattle.plain_machine.specs.declared.job.Task as code_task
use Rattle.plain_machine.specs.declared.job.Task.TheVariants as tasks
use Rattle.plain_machine.specs.declared.job.TaskState as code_state
use Rattle.dataflow_model.specs.Graph.{Meaning, Task, SourceTask, OperatorTask, SinkTask, Route, Every, Lanes, Channel, Job}
use Rattle.dataflow_model.specs.Machine.{TaskState, Configuration, Move, Read, Work, mover, Takes, left, received, state_under, fresh_task, Step, IsPossible, Reaches}

abbrev pub route_of : code_route.Route → Route
route_of routes.Every = Every
route_of (routes.Lanes share) = Lanes share.parallelism share.subtask

abbrev pub channel_of : code_channel.Channel → Channel
channel_of c = record { sender = c.sender; receiver = c.receiver; port = c.port; route = route_of c.route; marked = c.marked }

abbrev pub task_of : {O : Type 0} → code_task.Task O → Task O
task_of (tasks.Source partition) = SourceTask partition
task_of (tasks.Operator operator) = OperatorTask operator
task_of tasks.Sink = SinkTask

abbrev pub move_of : code_move.Move → Move
move_of (moves.Read task) = Read task
move_of (moves.Work task input) = Work task input

-- the records at a place, none where there is no place
abbrev pub records_of : {R A : Type 0} → Option (Vec R A) → List R
records_of None = []
records_of (Some rows) = rows.items

-- what a task holds, its states by the key that compares equal
abbrev pub state_of : {R K S : Type 0} → (K → K → Ordering) → Option (code_state.TaskState R K S) → TaskState R K S
state_of compare None = fresh_task
state_of compare (Some held) = record { offset = held.offset; states = tree.get compare held.states; output = held.output.items }

abbrev pub job_of : {O R K S : Type 0} → Meaning R K S O → code_job.Job O R → Job R K S O
job_of meaning job =
    record {
      meaning = meaning;
      graph = record { tasks = map task_of job.tasks.items; channels = map channel_of job.channels.items };
      partitions = λ partition. records_of (slice_get job.partitions.items partition);
    }

abbrev pub configuration_of : {R K S : Type 0} → (K → K → Ordering) → code_configuration.Configuration R K S → Configuration R K S
configuration_of compare configuration =
    record {
      tasks = λ task. state_of compare (slice_get configuration.tasks.items task);
      channels = λ channel. records_of (slice_get configuration.channels.items channel);
    }

-- the records are what the channel holds after the move, in which its task sends
abbrev pub IsQueueAfter : {O R K S : Type 0} → Meaning R K S O → code_job.Job O R → code_configuration.Configuration R K S → Move → List (ℕ × R) → ℕ → List R → Type 0
IsQueueAfter meaning job configuration move sent number queue =
    queue ≡ left move number (records_of (slice_get configuration.channels.items number)) ++ received meaning (mover move) sent (slice_get (map channel_of job.channels.items) number)

abbrev pub IsOperator : {O : Type 0} → Option (Task O) → Type 0
IsOperator None = ⊥
IsOperator (Some (SourceTask partition)) = ⊥
IsOperator (Some (OperatorTask operator)) = Unit {0}
IsOperator (Some SinkTask) = ⊥

module _ {R K S O : Type 0} where
  -- the operator is not to be asked what it makes of the record in its key's state: one of the two is none that it takes
  abbrev pub ApplyIsRefused : Meaning R K S O → (R → Type 0) → (O → S → Type 0) → O → R → (K → Option S) → Type 0
  ApplyIsRefused meaning RecordFits IsGood operator r states = ¬ (RecordFits r × IsGood operator (state_under (meaning.key operator r) (meaning.fresh operator) states))

  -- the move hands an operator what it does not take
  pub record IsUnfit (job : Job R K S O) (RecordFits : R → Type 0) (IsGood : O → S → Type 0) (move : Move) (c : Configuration R K S) : Type 0 where
    pub operator : O
    pub taken : R
    pub is_task : slice_get job.graph.tasks (mover move) ≡ Some (OperatorTask operator)
    pub takes : Takes job move (OperatorTask operator) taken c
    pub refused : ApplyIsRefused job.meaning RecordFits IsGood operator taken (c.tasks (mover move)).states

module _ {O R K S : Type 0} (meaning : Meaning R K S O) (compare : K → K → Ordering) where
  -- from one configuration to the other is the machine's step of this move
  abbrev pub MakesStep : code_job.Job O R → Move → code_configuration.Configuration R K S → code_configuration.Configuration R K S → Type 0
  MakesStep job move old new = Step (job_of meaning job) move (configuration_of compare old) (configuration_of compare new)

  abbrev pub IsImpossible : code_job.Job O R → Move → code_configuration.Configuration R K S → Type 0
  IsImpossible job move old = ¬ IsPossible (job_of meaning job) move (configuration_of compare old)

  -- the moves, one after another, lead from one to the other
  abbrev pub GoesAlong : code_job.Job O R → List code_move.Move → code_configuration.Configuration R K S → code_configuration.Configuration R K S → Type 0
  GoesAlong job steps old new = Reaches (job_of meaning job) (map move_of steps) (configuration_of compare old) (configuration_of compare new)

  abbrev pub HandsUnfit : (R → Type 0) → (O → S → Type 0) → code_job.Job O R → Move → code_configuration.Configuration R K S → Type 0
  HandsUnfit RecordFits IsGood job move old = IsUnfit (job_of meaning job) RecordFits IsGood move (configuration_of compare old)

  -- After so many of the moves, all of them made, the run stopped at the next, which hands an operator what it does not take.
  abbrev pub StopsAtUnfit : (R → Type 0) → (O → S → Type 0) → code_job.Job O R → List code_move.Move → ℕ → code_configuration.Configuration R K S → Type 0
  StopsAtUnfit RecordFits IsGood job steps made new = (next : code_move.Move) × (slice_get steps made ≡ Some next) × HandsUnfit RecordFits IsGood job (move_of next) new

-- both are one configuration of the machine
abbrev pub StaysAt : {R K S : Type 0} → (K → K → Ordering) → code_configuration.Configuration R K S → code_configuration.Configuration R K S → Type 0
StaysAt compare old new = configuration_of compare new ≡ configuration_of compare old
