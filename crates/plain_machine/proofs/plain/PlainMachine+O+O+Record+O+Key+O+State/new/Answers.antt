use Rattle.std.proofs.Common.{◌≡◌, ◌+◌, ℕ, List, Option, None, [], ◌∷◌, ◌++◌, length, length-append, slice_get, refl, ap, ap₂, ◌∙◌, arith, Ordering, Vec, Global}
use Rattle.std.specs.BTreeMap as tree
use Rattle.std.specs.BTreeMap.{BTreeMap, IsEmpty, is_at}
use Rattle.std.specs.Map.{lookup}
use mathlib.Core.Path.{fun_ext}
use Rattle.plain_machine.specs.declared.job.Configuration as code_configuration
use Rattle.plain_machine.specs.declared.job.TaskState as code_state
use Rattle.dataflow_model.specs.Machine.{TaskState, Configuration, fresh_task, start}
use Rattle.plain_machine.specs.Plain.{records_of, state_of, configuration_of}
use Rattle.plain_machine.proofs.Made.{each_pushed, no_value}
use Rattle.plain_machine.proofs.plain.PlainMachine+O+O+Record+O+Key+O+State.new.Goals as goal

one_more : {A : Type 0} (xs ys : List A) (x : A) (n : ℕ) → ys ≡ xs ++ x ∷ [] → length xs ≡ n → length ys ≡ n + 1
one_more xs ys x n e h = omega (arith, ap length e, length-append xs (x ∷ []), h)

module _ {R K S : Type 0} (compare : K → K → Ordering) where
  fresh_too : (tasks more : List (code_state.TaskState R K S)) (states : BTreeMap K S) (output : Vec R Global) →
      more ≡ tasks ++ record { offset = 0; states = states; output = output } ∷ [] →
      IsEmpty states →
      output.items ≡ [] →
      ((k : ℕ) → state_of compare (slice_get tasks k) ≡ fresh_task) → (k : ℕ) → state_of compare (slice_get more k) ≡ fresh_task
  fresh_too tasks more states output more_is none nothing fresh k =
      let build : (K → Option S) → List R → TaskState R K S = λ a b. record { offset = 0; states = a; output = b } in
      let no_state : (key : K) → tree.get compare states key ≡ None = λ key. ap (λ entries. lookup (is_at (compare key)) entries) none in
      ap (λ l. state_of compare (slice_get l k)) more_is
      ∙ each_pushed (state_of compare) fresh_task tasks _ fresh (ap₂ build (fun_ext no_state) nothing) refl k

  all_fresh : (c : code_configuration.Configuration R K S) → ((k : ℕ) → state_of compare (slice_get c.tasks.items k) ≡ fresh_task) → ((k : ℕ) → records_of (slice_get c.channels.items k) ≡ []) → configuration_of compare c ≡ start
  all_fresh c fresh empty =
      let build : (ℕ → TaskState R K S) → (ℕ → List R) → Configuration R K S = λ a b. record { tasks = a; channels = b } in
      ap₂ build (fun_ext fresh) (fun_ext empty)

empty_too : {R : Type 0} (queues more : List (Vec R Global)) (queue : Vec R Global) → more ≡ queues ++ queue ∷ [] → queue.items ≡ [] → ((k : ℕ) → records_of (slice_get queues k) ≡ []) → (k : ℕ) → records_of (slice_get more k) ≡ []
empty_too queues more queue more_is nothing empty k =
    ap (λ l. records_of (slice_get l k)) more_is ∙ each_pushed (λ q. records_of q) [] queues queue empty nothing refl k

pub loop-task-init : goal.loop-task-init
loop-task-init g c = (ap length c.new-tasks.ensures.items, λ k. ap (λ l. state_of g.O.Key.Ord.cmp (slice_get l k)) c.new-tasks.ensures.items)

pub loop-task-preserved : goal.loop-task-preserved
loop-task-preserved g c = (
  one_more c.loop-task.tasks.items c.push.new.self.items _ c.loop-task.task c.in_ok-push.ensures.items c.loop-task.invariant.0,
  fresh_too g.O.Key.Ord.cmp c.loop-task.tasks.items c.push.new.self.items c.new.result c.new-in-loop-task.result c.in_ok-push.ensures.items c.new.ensures.empty c.new-in-loop-task.ensures.items c.loop-task.invariant.1,
)

pub loop-channel-init : goal.loop-channel-init
loop-channel-init g c = (ap length c.new-channels.ensures.items, λ k. ap (λ l. records_of (slice_get l k)) c.new-channels.ensures.items)

pub loop-channel-preserved : goal.loop-channel-preserved
loop-channel-preserved g c = (
  one_more c.loop-channel.channels.items c.push-in-loop-channel.new.self.items c.new-in-loop-channel.result c.loop-channel.channel c.in_ok-push-2.ensures.items c.loop-channel.invariant.0,
  empty_too c.loop-channel.channels.items c.push-in-loop-channel.new.self.items c.new-in-loop-channel.result c.in_ok-push-2.ensures.items c.new-in-loop-channel.ensures.items c.loop-channel.invariant.1,
)

pub returns-in_err-push-clause-job : goal.returns-in_err-push-clause-job
returns-in_err-push-clause-job g c = no_value c.from_residual.result _ c.from_residual.ensures.0

pub returns-in_err-push-clause-starts : goal.returns-in_err-push-clause-starts
returns-in_err-push-clause-starts g c = no_value c.from_residual.result _ c.from_residual.ensures.0

pub returns-in_err-push-2-clause-job : goal.returns-in_err-push-2-clause-job
returns-in_err-push-2-clause-job g c = no_value c.from_residual-in_err-push-2.result _ c.from_residual-in_err-push-2.ensures.0

pub returns-in_err-push-2-clause-starts : goal.returns-in_err-push-2-clause-starts
returns-in_err-push-2-clause-starts g c = no_value c.from_residual-in_err-push-2.result _ c.from_residual-in_err-push-2.ensures.0

pub returns-clause-starts : goal.returns-clause-starts
returns-clause-starts g c = all_fresh g.O.Key.Ord.cmp (record { tasks = c.loop-task.tasks; channels = c.loop-channel.channels }) c.loop-task.invariant.1 c.loop-channel.invariant.1
