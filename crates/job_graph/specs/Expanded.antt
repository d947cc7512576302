-- An expanded job: its tasks, the channels between them, and an order of the tasks.
use Rattle.std.specs.Prelude.{◌≡◌, ℕ, ◌<◌, ◌≤◌, ◌&&◌, ◌==◌, List, length, take, filter, count_by, Bool, true, false, Some, slice_get, IsPermutation}
use Rattle.std.specs.List.{range_with_len}
use Rattle.std.specs.Option.{option_map_or}
use Rattle.dataflow_model.specs.Graph.{Channel, takes_lane}
use Rattle.job_graph.specs.declared.role.Role.{Role}
use Rattle.job_graph.specs.declared.role.Role.TheVariants.{Source, Operator, Sink}
use Rattle.job_graph.specs.declared.role.TaskKind.{TaskKind}
use Rattle.job_graph.specs.declared.role.TaskKind.TheVariants as task
use Rattle.job_channels.specs.Channel.{HasSubtask}

pub record Expanded : Type 0 where
  pub tasks : List Role
  pub channels : List Channel
  -- the tasks, each behind the senders of its unmarked inputs
  pub order : List ℕ
  -- the job, spelled
  pub spelling : List ℕ

abbrev pub is_source : Role → Bool
is_source (Source partition) = true
is_source _ = false

abbrev pub is_operator : Role → Bool
is_operator (Operator number) = true
is_operator _ = false

abbrev pub is_sink : Role → Bool
is_sink (Sink subtask) = true
is_sink _ = false

-- the task is this sink subtask
abbrev pub is_subtask : ℕ → Role → Bool
is_subtask subtask (Sink number) = number == subtask
is_subtask subtask _ = false

abbrev pub is_subtask_at : List Role → ℕ → ℕ → Bool
is_subtask_at tasks subtask task = option_map_or (is_subtask subtask) (slice_get tasks task) false

-- how many tasks of the role's kind there are
abbrev pub count_like : List Role → Role → ℕ
count_like tasks (Source partition) = count_by is_source tasks
count_like tasks (Operator number) = count_by is_operator tasks
count_like tasks (Sink subtask) = count_by is_sink tasks

abbrev pub role_number : Role → ℕ
role_number (Source partition) = partition
role_number (Operator number) = number
role_number (Sink subtask) = subtask

abbrev pub task_kind : Role → TaskKind
task_kind (Source partition) = task.Source
task_kind (Operator number) = task.Operator
task_kind (Sink subtask) = task.Sink

-- sources, operators and sinks are each numbered from 0
pub record IsNumbered (tasks : List Role) : Type 0 where
  pub each : (task : ℕ) (role : Role) → slice_get tasks task ≡ Some role → role_number role ≡ count_like (take task tasks) role

-- a task that sends records, and one that takes them
pub record IsSender (tasks : List Role) (task : ℕ) : Type 0 where
  pub role : Role
  pub is : slice_get tasks task ≡ Some role
  pub sends : is_sink role ≡ false

pub record IsReceiver (tasks : List Role) (task : ℕ) : Type 0 where
  pub role : Role
  pub is : slice_get tasks task ≡ Some role
  pub takes : is_source role ≡ false

-- a channel between tasks, on a port that there is
pub record IsChannel (tasks : List Role) (channel : Channel) : Type 0 where
  pub sender : IsSender tasks channel.sender
  pub receiver : IsReceiver tasks channel.receiver
  pub port : channel.port < 2
  pub route : HasSubtask channel.route

-- a channel leads into the task and is unmarked
pub record HasPlainInput (channels : List Channel) (task : ℕ) : Type 0 where
  pub number : ℕ
  pub channel : Channel
  pub is : slice_get channels number ≡ Some channel
  pub leads : channel.receiver ≡ task
  pub unmarked : channel.marked ≡ false

-- the task has a place in the order before this one
pub record StandsBefore (order : List ℕ) (task place : ℕ) : Type 0 where
  pub before : ℕ
  pub less : before < place
  pub is : slice_get order before ≡ Some task

pub record IsExpanded (graph : Expanded) : Type 0 where
  pub few_tasks : length graph.tasks ≤ 256
  pub few_channels : length graph.channels ≤ 4096
  pub numbered : IsNumbered graph.tasks
  pub joined : (number : ℕ) (channel : Channel) → slice_get graph.channels number ≡ Some channel → IsChannel graph.tasks channel
  -- the order has each task once,
  pub whole : IsPermutation (range_with_len 0 (length graph.tasks)) graph.order
  -- and each behind the senders of its unmarked inputs, so that these lead round no cycle
  pub ordered : (number : ℕ) (channel : Channel) (place : ℕ) → slice_get graph.channels number ≡ Some channel → channel.marked ≡ false
      → slice_get graph.order place ≡ Some channel.receiver → StandsBefore graph.order channel.sender place
  pub fed : (task : ℕ) → IsReceiver graph.tasks task → HasPlainInput graph.channels task

-- ---- the channels of a task

-- whether the channel of a number meets a test
abbrev pub meets : (Channel → Bool) → List Channel → ℕ → Bool
meets test channels number = option_map_or test (slice_get channels number) false

-- the numbers of the channels that meet a test, rising
abbrev pub numbers_of : (Channel → Bool) → List Channel → List ℕ
numbers_of test channels = filter (meets test channels) (range_with_len 0 (length channels))

-- the channels that lead into a task
abbrev pub is_input : ℕ → Channel → Bool
is_input task channel = channel.receiver == task

-- the channels that a task sends on
abbrev pub is_output : ℕ → Channel → Bool
is_output task channel = channel.sender == task

-- the channels of a port
abbrev pub is_on : ℕ → Channel → Bool
is_on port channel = channel.port == port

-- those that a task sends on by one port
abbrev pub is_outlet : ℕ → ℕ → Channel → Bool
is_outlet task port channel = (channel.sender == task) && (channel.port == port)

-- those that a record of a lane goes into
abbrev pub is_target : ℕ → ℕ → ℕ → Channel → Bool
is_target task port lane channel = is_outlet task port channel && takes_lane channel.route lane

-- those of any port
abbrev pub takes : ℕ → Channel → Bool
takes lane channel = takes_lane channel.route lane

abbrev pub is_marked : Channel → Bool
is_marked channel = channel.marked

abbrev pub inputs_of : Expanded → ℕ → List ℕ
inputs_of graph task = numbers_of (is_input task) graph.channels

abbrev pub outputs_of : Expanded → ℕ → List ℕ
outputs_of graph task = numbers_of (is_output task) graph.channels

abbrev pub outlets_of : Expanded → ℕ → ℕ → List ℕ
outlets_of graph task port = numbers_of (is_outlet task port) graph.channels

abbrev pub targets_of : Expanded → ℕ → ℕ → ℕ → List ℕ
targets_of graph task port lane = numbers_of (is_target task port lane) graph.channels
