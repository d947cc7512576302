-- What a list has at an index, in what a move takes.
use Rattle.std.proofs.Common.{◌≡◌, ◌==◌, ◌&&◌, Bool, true, false, Bor, List, [], Option, Some, None, slice_get, length, map, ℕ, if◌then◌else◌, refl, sym, ap, ap₂, ◌∙◌, Vec, Global}
use Rattle.std.specs.Option.{option_map, option_copied}
use Rattle.std.specs.Slice.{IsItemAt}
use Rattle.std.proofs.lemmas.Option.{slice_get_read, slice_get_past, slice_get-map}
use Rattle.std.proofs.lemmas.Bool.{eq-eqb, ne_eqb}
use Rattle.plain_machine.specs.declared.job.Channel as code_channel
use Rattle.plain_machine.specs.declared.job.Task as code_task
use Rattle.plain_machine.specs.declared.job.Task.TheVariants.{Source}
use Rattle.plain_machine.specs.Offered.{has_inputs, next_of, first_of}
use Rattle.plain_machine.specs.Plain.{task_of, channel_of, records_of}

pub looked_up : {A : Type 0} (xs ys : List A) (i : ℕ) (found : Option (Bor A)) → ys ≡ xs → IsItemAt ys i found → slice_get xs i ≡ option_copied found
looked_up xs ys i None same h = ap (λ l. slice_get l i) (sym same) ∙ slice_get_past ys i h.3
looked_up xs ys i (Some x) same h = ap (λ l. slice_get l i) (sym same) ∙ slice_get_read ys (length ys) i x.now refl h.3.0 h.1

module _ {R O : Type 0} (tasks : List (code_task.Task O)) (channels : List code_channel.Channel) (queues : List (Vec R Global)) (task input : ℕ) where
  first_found : (kind : Option (code_task.Task O)) (channel : Option code_channel.Channel) (queue : Option (Vec R Global)) →
      slice_get tasks task ≡ kind → slice_get channels input ≡ channel → slice_get queues input ≡ queue →
      first_of (slice_get (map task_of tasks) task) (slice_get (map channel_of channels) input) task (records_of (slice_get queues input)) ≡ first_of (option_map task_of kind) (option_map channel_of channel) task (records_of queue)
  first_found kind channel queue kind_is channel_is queue_is =
      ap₂ (λ k c. first_of k c task (records_of (slice_get queues input))) (slice_get-map task_of tasks task ∙ ap (option_map task_of) kind_is) (slice_get-map channel_of channels input ∙ ap (option_map channel_of) channel_is)
      ∙ ap (λ q. first_of (option_map task_of kind) (option_map channel_of channel) task (records_of q)) queue_is

  pub none_at_task : slice_get tasks task ≡ None → first_of (slice_get (map task_of tasks) task) (slice_get (map channel_of channels) input) task (records_of (slice_get queues input)) ≡ None
  none_at_task none = first_found None (slice_get channels input) (slice_get queues input) none refl refl

  pub none_at_channel : slice_get channels input ≡ None → first_of (slice_get (map task_of tasks) task) (slice_get (map channel_of channels) input) task (records_of (slice_get queues input)) ≡ None
  none_at_channel none = first_found (slice_get tasks task) None (slice_get queues input) refl none refl ∙ no_channel (slice_get tasks task)
    where
      no_channel : (k : Option (code_task.Task O)) → first_of (option_map task_of k) None task (records_of (slice_get queues input)) ≡ None
      no_channel None = refl
      no_channel (Some kind) = refl

  -- a task that was found, with what tells whether it has inputs, and a channel
  module _ (kind : code_task.Task O) (channel : code_channel.Channel) (kind_is : slice_get tasks task ≡ Some kind) (channel_is : slice_get channels input ≡ Some channel) (told : Bool) (tells : told ≡ has_inputs (task_of kind)) where
    pub none_in_queue : slice_get queues input ≡ None → first_of (slice_get (map task_of tasks) task) (slice_get (map channel_of channels) input) task (records_of (slice_get queues input)) ≡ None
    none_in_queue none = first_found (Some kind) (Some channel) None kind_is channel_is none ∙ nothing (has_inputs (task_of kind) && (channel.receiver == task))
      where
        nothing : (b : Bool) → (if b then slice_get {X = R} [] 0 else None) ≡ None
        nothing true = refl
        nothing false = refl

    pub first_in_queue : (queue : Vec R Global) → slice_get queues input ≡ Some queue → told ≡ true → channel.receiver ≡ task → first_of (slice_get (map task_of tasks) task) (slice_get (map channel_of channels) input) task (records_of (slice_get queues input)) ≡ slice_get queue.items 0
    first_in_queue queue queue_is inputs here =
        first_found (Some kind) (Some channel) (Some queue) kind_is channel_is queue_is
        ∙ ap₂ (λ a b. if a && b then slice_get queue.items 0 else None) (sym tells ∙ inputs) (eq-eqb channel.receiver task here)

    pub none_without_inputs : told ≡ false → first_of (slice_get (map task_of tasks) task) (slice_get (map channel_of channels) input) task (records_of (slice_get queues input)) ≡ None
    none_without_inputs none =
        first_found (Some kind) (Some channel) (slice_get queues input) kind_is channel_is refl
        ∙ ap (λ a. if a && (channel.receiver == task) then slice_get (records_of (slice_get queues input)) 0 else None) (sym tells ∙ none)

    pub none_elsewhere : told ≡ true → (channel.receiver ≡ task → ⊥) → first_of (slice_get (map task_of tasks) task) (slice_get (map channel_of channels) input) task (records_of (slice_get queues input)) ≡ None
    none_elsewhere inputs apart =
        first_found (Some kind) (Some channel) (slice_get queues input) kind_is channel_is refl
        ∙ ap₂ (λ a b. if a && b then slice_get (records_of (slice_get queues input)) 0 else None) (sym tells ∙ inputs) (ne_eqb channel.receiver task apart)

pub next_found : {R O : Type 0} (tasks : List (code_task.Task O)) (partitions : ℕ → List R) (task offset partition : ℕ) (kind : code_task.Task O) → slice_get tasks task ≡ Some kind → kind ≡ Source partition → next_of partitions (slice_get (map task_of tasks) task) offset ≡ slice_get (partitions partition) offset
next_found tasks partitions task offset partition kind kind_is source =
    ap (λ k. next_of partitions k offset) (slice_get-map task_of tasks task ∙ ap (option_map task_of) (kind_is ∙ ap Some source))
