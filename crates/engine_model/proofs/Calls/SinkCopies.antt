-- A sink takes the barrier; one that copies at it begins a transaction, pre-commits the one that was open, and copies the names.
use Rattle.std.proofs.Common.{◌≡◌, ◌⊎◌, ◌<◌, ◌+◌, ◌==◌, ◌++◌, if◌then◌else◌, inl, inr, All, MatchOption, Option, Some, None, Result, Ok, Err, slice_get, unwrap_or, length, ℕ, true, false, List, [], refl, sym, ap, subst, ◌∙◌}
use Rattle.std.specs.Option.{option_map}
use Rattle.std.proofs.lemmas.Bool.{false≢true}
use Rattle.std.proofs.lemmas.Bool.Decides.{eqb_tells}
use Rattle.std.proofs.lemmas.List.Elements.{All-push}
use Rattle.std.proofs.lemmas.Option.{same_Some, none-some, slice_get_within}
use Rattle.alignment.specs.Table.{effect_of}
use Rattle.alignment.specs.declared.input.Effect.{Effect}
use Rattle.checkpoint_model.specs.Durable as durable
use Rattle.checkpoint_model.specs.Durable.{Begin, PreCommit, PreCommits, AreLast, transactions_of, is_on}
use Rattle.checkpoint_model.specs.Engine.{Running}
use Rattle.checkpoint_model.specs.Headline.{CopiesATask}
use Rattle.checkpoint_model.proofs.PrunedViews.{same_run}
use Rattle.commit_sink.specs.Ledger.{Ledger, IsOrdered, transaction_at, begun, pre_committed}
use Rattle.commit_sink.specs.declared.transactions.Progress.TheVariants.{PreCommitted}
use Rattle.commit_sink.specs.Sink.{Sinking, names_with_open, pre_committed_last}
use Rattle.commit_sink.specs.declared.sink.Pending.{Pending}
use Rattle.dataflow_model.specs.Graph.{SinkTask}
use Rattle.job_graph.proofs.PlainTasks.{tasks-graph_of}
use Rattle.job_graph.specs.PlainGraph.{task_of}
use Rattle.job_graph.specs.declared.role.Role.{Role}
use Rattle.job_graph.specs.declared.role.Role.TheVariants as role
use Rattle.job_state.specs.Held.{Held, copy_at, gate_at, sink_copied}
use Rattle.job_state.specs.declared.holding.Holding.TheVariants as holds
use Rattle.snapshot_store.specs.Store.{is_complete}
use Rattle.task_part.specs.declared.part.Part.{Part}
use Rattle.task_part.specs.declared.part.Part.TheVariants as part
use Rattle.engine_model.specs.AllRules.{AllRules}
use Rattle.engine_model.specs.Calls.{EndsSinkBarrier, CopiesSink, FailsToCopySink, IsBarrierNext, input_at, is_copy, left_by}
use Rattle.engine_model.specs.Keeps.{Keeps, GateFits, PendingIn, NoneAfter, RunsIn, Shape}
use Rattle.engine_model.specs.State.{State}
use Rattle.engine_model.specs.View.{named_by, names_in, attempt_of, run_of, store_of, transactions_at}
use Rattle.engine_model.specs.declared.fault.CoreFault.{CoreFault}
use Rattle.engine_model.specs.declared.fault.CoreFault.TheVariants.{NotReady, ChannelBlocked, Memory, Device}
use Rattle.engine_model.proofs.Lists.{get_set_same, get_set_other}
use Rattle.engine_model.proofs.Copies.{sink_copies}
use Rattle.engine_model.proofs.Shape.Gates.{copy_is_first}
use Rattle.engine_model.proofs.Runs.{between, barrier_runs}
use Rattle.engine_model.proofs.Shape.ShapesKept.{shape_sink_copied}
use Rattle.engine_model.proofs.Ledger.LastPending.{all_at, none_after_push}
use Rattle.engine_model.proofs.Ledger.Copy.{Copied, copy_in}
use Rattle.engine_model.proofs.Store.View.{is_on-line_of}
use Rattle.engine_model.proofs.Store.Put.{pending_incomplete}
use Rattle.engine_model.proofs.Store.Runs.{pending_copied, runs_pending}
use Rattle.engine_model.proofs.Calls.Goes.{KeepsAndGoes, shape_of, runs_of}
use Rattle.engine_model.proofs.Calls.Steps.{after, Steps, goes_keeps, goes_two, goes_down_once, goes_down_twice, keeps_down}
use Rattle.engine_model.proofs.Calls.Sinks.{devices_with, others_same, changes_sink, sinks_in, changed_subtasks, same_sink}
use Rattle.engine_model.proofs.Calls.Barriers.{notes_barrier}
use Rattle.engine_model.proofs.Calls.Injects.{copy_within}
use Rattle.engine_model.proofs.Calls.PutsOut.{keeps_still_with}

all_subtasks : (l : Ledger) (n checkpoint : ℕ) → (pre_committed l n checkpoint).subtasks ≡ l.subtasks
all_subtasks l n checkpoint = changed_subtasks l n (λ x. record x { progress = PreCommitted checkpoint }) (transaction_at l n)

module _ {R K S O : Type 0} (rules : AllRules R K S O) (s : State O R K S) (h : Held R K S) (n task subtask input channel checkpoint : ℕ) (sink : Sinking) (new : Ledger)
    (keeps : Keeps rules s) (is : s.held ≡ Some h) (at_task : slice_get s.graph.tasks task ≡ Some (role.Sink subtask)) (leads : input_at s.graph task input ≡ Some channel)
    (barrier : IsBarrierNext h channel checkpoint) (copying : is_copy (effect_of (gate_at h task) input) ≡ true) (was : slice_get h.tasks task ≡ Some (holds.Sink sink)) where
  abbrev middle : Ledger
  middle = begun s.ledger subtask

  abbrev line : List ℕ
  line = (store_of rules.lang s.stored).line

  abbrev names : List ℕ
  names = names_with_open sink

  abbrev sink_now : Sinking
  sink_now = record (pre_committed_last sink checkpoint) { open_one = length s.ledger.transactions + 1 }

  abbrev k : Held R K S
  k = sink_copied task input channel checkpoint names sink_now h

  shape_before : Shape rules s.graph s.operators h
  shape_before = shape_of rules s keeps h is

  gate : GateFits s.graph h task
  gate = shape_before.gate_fits task (slice_get_within s.graph.tasks task (role.Sink subtask) at_task)

  -- the sink has not copied yet
  not_copied : copy_at h task ≡ None
  not_copied = copy_is_first s.graph h task gate input channel leads checkpoint barrier.1 barrier.2 copying

  runs_before : RunsIn rules.lang s h
  runs_before = runs_of rules s keeps h is

  pending_in : PendingIn rules.lang s.graph s.stored h checkpoint
  pending_in = runs_pending rules.lang s h runs_before checkpoint barrier.1

  not_complete : is_on line checkpoint ≡ false
  not_complete = is_on-line_of s.stored checkpoint keeps.numbered ∙ pending_incomplete rules.lang s.graph s.stored h checkpoint pending_in

  -- the ledger's two calls
  ledger_copies : (l : Ledger) → l ≡ pre_committed middle sink.open_one checkpoint → Copied line checkpoint subtask sink s.ledger middle l
  ledger_copies l e = copy_in s.ledger middle l subtask sink checkpoint line keeps.ordered (runs_before.sinks task subtask sink at_task was) not_complete refl e

  module _ (done : Copied line checkpoint subtask sink s.ledger middle new) where
    abbrev within : task < length h.copies
    within = copy_within rules s h h n task keeps is (role.Sink subtask) at_task

    within_tasks : task < length h.tasks
    within_tasks = slice_get_within h.tasks task (holds.Sink sink) was

    -- the names that tasks have copied
    named_now : (t : ℕ) → named_by (slice_get s.graph.tasks t) (copy_at k t) ≡ (if t == task then names else named_by (slice_get s.graph.tasks t) (copy_at h t))
    named_now t =
        elim (eqb_tells t task) [
          | inl e ↦
              rw e.0
              (ap (λ (m : ℕ). named_by (slice_get s.graph.tasks m) (copy_at k m)) e.1 ∙ ap (λ (o : Option Role). named_by o (copy_at k task)) at_task
              ∙ ap (λ (o : Option (Option (Part R K S))). names_in (unwrap_or o None)) (get_set_same h.copies task (Some (part.Sink names [])) within))
          | inr e ↦ rw e.0 (ap (λ (o : Option (Option (Part R K S))). named_by (slice_get s.graph.tasks t) (unwrap_or o None)) (get_set_other h.copies task t (Some (part.Sink names [])) e.1))
        ]

    abbrev taken : Running R K S
    taken = between rules.lang s h k task input channel checkpoint leads gate shape_before.came barrier

    abbrev PreAt : Option Role → ℕ → Type 0
    PreAt o m = (c : PreCommits line m (transactions_at middle o) (transactions_at new o)) × (c.front ≡ [])

    pre_at_role : PreAt (slice_get s.graph.tasks task) checkpoint
    pre_at_role = subst (λ (o : Option Role). PreAt o checkpoint) (sym at_task) (done.call, done.is_first)

    pre_at : PreAt (slice_get s.graph.tasks task) taken.number
    pre_at = subst (λ (o : Option ℕ). PreAt (slice_get s.graph.tasks task) (unwrap_or o 0)) (sym barrier.1) pre_at_role

    last_names : AreLast names (transactions_at new (slice_get s.graph.tasks task)).committed ((transactions_at new (slice_get s.graph.tasks task)).committed ++ transactions_of (transactions_at new (slice_get s.graph.tasks task)).pre_committed)
    last_names = subst (λ (o : Option Role). AreLast names (transactions_at new o).committed ((transactions_at new o).committed ++ transactions_of (transactions_at new o).pre_committed)) (sym at_task) done.names_last

    copy_steps : Steps rules.lang s (devices_with rules.lang s keeps.expanded task subtask at_task s.ledger) (devices_with rules.lang s keeps.expanded task subtask at_task new) taken (run_of rules.lang.cmp s.graph k)
    copy_steps =
        CopiesATask task (record {
          attempt = attempt_of rules.lang.cmp k;
          copies = sink_copies rules.lang s h k task input channel checkpoint leads gate shape_before.came barrier within copying keeps.expanded subtask names sink sink_now at_task was refl;
          kind = SinkTask;
          is_task = tasks-graph_of s.graph s.operators task ∙ ap (option_map (task_of s.operators)) at_task;
          elsewhere = λ not_sink. absurd (not_sink refl);
          at_sink = λ e. (
            length s.ledger.transactions + 1,
            devices_with rules.lang s keeps.expanded task subtask at_task middle,
            changes_sink rules.lang s keeps.expanded task subtask at_task (λ a b. b ≡ durable.begun (length s.ledger.transactions + 1) a) s.ledger middle done.began done.others_began,
            record { store = refl; sink = pre_at.0; others = others_same rules.lang s keeps.expanded task subtask at_task middle new done.others },
            pre_at.1,
            names,
            last_names,
            same_run (run_of rules.lang.cmp s.graph k) (record { attempt = attempt_of rules.lang.cmp k; number = taken.number; named = λ other. if other == task then names else taken.named other }) refl refl named_now,
          );
        })

    goes_copied : Steps rules.lang s (devices_with rules.lang s keeps.expanded task subtask at_task s.ledger) (devices_with rules.lang s keeps.expanded task subtask at_task s.ledger) (run_of rules.lang.cmp s.graph h) taken
    goes_copied = barrier_runs rules.lang s h k task input channel checkpoint leads gate shape_before.came barrier

    -- what the task holds, and what others hold
    sink_here : (sink' : Sinking) → slice_get k.tasks task ≡ Some (holds.Sink sink') → sink' ≡ sink_now
    sink_here sink' at = same_sink sink' sink_now (same_Some (holds.Sink sink') (holds.Sink sink_now) (sym at ∙ get_set_same h.tasks task (holds.Sink sink_now) within_tasks))

    sink_there : (t : ℕ) (sink' : Sinking) → (t ≡ task → ⊥) → slice_get k.tasks t ≡ Some (holds.Sink sink') → slice_get h.tasks t ≡ Some (holds.Sink sink')
    sink_there t sink' apart at = sym (get_set_other h.tasks task t (holds.Sink sink_now) apart) ∙ at

    copy_there : (t : ℕ) → (t ≡ task → ⊥) → copy_at k t ≡ copy_at h t
    copy_there t apart = ap (λ (o : Option (Option (Part R K S))). unwrap_or o None) (get_set_other h.copies task t (Some (part.Sink names [])) apart)

    abbrev IsCompleteOrPending : Pending → Type 0
    IsCompleteOrPending p = (is_complete s.stored p.checkpoint ≡ true) ⊎ (h.coordination.pending ≡ Some p.checkpoint)

    runs_now : RunsIn rules.lang (after rules.lang s new (Some k) n) k
    runs_now = record {
      pending =
          subst (λ (o : Option ℕ). MatchOption o (Unit {0}) (PendingIn rules.lang s.graph s.stored k)) (sym barrier.1)
          (pending_copied rules.lang s.graph s.stored h k checkpoint pending_in task (part.Sink names []) not_copied refl refl refl);
      last_complete = runs_before.last_complete;
      sinks =
          sinks_in rules.lang s keeps.expanded task subtask at_task k.tasks s.ledger new sink_now (get_set_same h.tasks task (holds.Sink sink_now) within_tasks) done.sink_in
          (λ other sink' apart there. done.other_sinks other sink' apart (done.sinks_began other sink' apart there))
          (λ t m sink' apart role_is at. runs_before.sinks t m sink' role_is (sink_there t sink' apart at));
      checkpoints = λ t sink' at.
          elim (eqb_tells t task) [
            | inl e ↦
                let one : sink' ≡ sink_now = sink_here sink' (ap (slice_get k.tasks) (sym e.1) ∙ at) in
                subst (λ (x : Sinking). All IsCompleteOrPending x.pending) (sym one)
                (All-push IsCompleteOrPending sink.pending (record { transaction = sink.open_one; checkpoint = checkpoint }) (runs_before.checkpoints task sink was) (inr barrier.1))
            | inr e ↦ runs_before.checkpoints t sink' (sink_there t sink' e.1 at)
          ];
      copied_last = λ t number sink' at pending none.
          elim (eqb_tells t task) [
            | inl e ↦
                absurd (none-some (part.Sink names [])
                (sym none ∙ ap (copy_at k) e.1 ∙ ap (λ (o : Option (Option (Part R K S))). unwrap_or o None) (get_set_same h.copies task (Some (part.Sink names [])) within)))
            | inr e ↦ runs_before.copied_last t number sink' (sink_there t sink' e.1 at) pending (sym (copy_there t e.1) ∙ none)
          ];
      last_pending = λ t sink' at.
          elim (eqb_tells t task) [
            | inl e ↦
                let one : sink' ≡ sink_now = sink_here sink' (ap (slice_get k.tasks) (sym e.1) ∙ at) in
                subst (λ (x : Sinking). NoneAfter h.coordination.pending x.pending) (sym one)
                (none_after_push h.coordination.pending sink.pending (record { transaction = sink.open_one; checkpoint = checkpoint }) none_before)
            | inr e ↦ runs_before.last_pending t sink' (sink_there t sink' e.1 at)
          ];
    }
      where
        -- those that were pending are of complete checkpoints
        none_before : (i : ℕ) (p : Pending) → slice_get sink.pending i ≡ Some p → h.coordination.pending ≡ Some p.checkpoint → ⊥
        none_before i p here e =
            let complete : is_complete s.stored p.checkpoint ≡ true = all_at (λ (q : Pending). is_complete s.stored q.checkpoint ≡ true) sink.pending i p (runs_before.copied_last task checkpoint sink was barrier.1 not_copied) here in
            false≢true (sym (pending_incomplete rules.lang s.graph s.stored h checkpoint pending_in) ∙ ap (is_complete s.stored) (same_Some checkpoint p.checkpoint (sym barrier.1 ∙ e)) ∙ complete)

    copied : new.subtasks ≡ s.ledger.subtasks → IsOrdered new → KeepsAndGoes rules s (after rules.lang s new (Some k) n)
    copied subtasks ordered =
        goes_keeps rules s keeps new (Some k) n subtasks ordered
        (shape_sink_copied rules s.graph s.operators h shape_before task subtask input channel checkpoint names sink_now keeps.expanded at_task leads barrier copying)
        runs_now
        (goes_two rules.lang s h is new k n taken refl goes_copied copy_steps)

  begun_down : IsOrdered middle → KeepsAndGoes rules s (after rules.lang s middle None n)
  begun_down ordered =
      let done = ledger_copies (pre_committed middle sink.open_one checkpoint) refl in
      goes_keeps rules s keeps middle None n refl ordered tt tt
      (goes_down_once rules.lang s middle n (Begin task (length s.ledger.transactions + 1))
      (changes_sink rules.lang s keeps.expanded task subtask at_task (λ a b. b ≡ durable.begun (length s.ledger.transactions + 1) a) s.ledger middle done.began done.others_began))

  copied_down : Copied line checkpoint subtask sink s.ledger middle new → new.subtasks ≡ s.ledger.subtasks → IsOrdered new → KeepsAndGoes rules s (after rules.lang s new None n)
  copied_down done subtasks ordered =
      goes_keeps rules s keeps new None n subtasks ordered tt tt
      (goes_down_twice rules.lang s middle new n (Begin task (length s.ledger.transactions + 1)) (PreCommit task checkpoint)
      (changes_sink rules.lang s keeps.expanded task subtask at_task (λ a b. b ≡ durable.begun (length s.ledger.transactions + 1) a) s.ledger middle done.began done.others_began)
      (changes_sink rules.lang s keeps.expanded task subtask at_task (λ a b. PreCommits line checkpoint a b) middle new done.call done.others))

module _ {R K S O : Type 0} (rules : AllRules R K S O) (s : State O R K S) (h k : Held R K S) (n task subtask input channel : ℕ) (new : Ledger)
    (keeps : Keeps rules s) (is : s.held ≡ Some h) (at_task : slice_get s.graph.tasks task ≡ Some (role.Sink subtask)) (ordered : IsOrdered new) (leads : input_at s.graph task input ≡ Some channel) where
  pre_subtasks : (sink : Sinking) (checkpoint : ℕ) → new ≡ pre_committed (begun s.ledger subtask) sink.open_one checkpoint → new.subtasks ≡ s.ledger.subtasks
  pre_subtasks sink checkpoint e = ap (λ (l : Ledger). l.subtasks) e ∙ all_subtasks (begun s.ledger subtask) sink.open_one checkpoint

  copies_sink : (effect : Effect) → CopiesSink task input h k channel subtask s.ledger new effect → KeepsAndGoes rules s (after rules.lang s new (Some k) n)
  copies_sink effect ends =
      let copying : is_copy (effect_of (gate_at h task) input) ≡ true = ap is_copy (sym ends.brings) ∙ ends.copies in
      let done = ledger_copies rules s h n task subtask input channel ends.checkpoint ends.sink new keeps is at_task leads ends.barrier copying ends.was new ends.transactions in
      subst (λ (x : Held R K S). KeepsAndGoes rules s (after rules.lang s new (Some x) n)) (sym ends.ends)
      (copied rules s h n task subtask input channel ends.checkpoint ends.sink new keeps is at_task leads ends.barrier copying ends.was done (pre_subtasks ends.sink ends.checkpoint ends.transactions) ordered)

  fails_to_copy : FailsToCopySink task input h k channel subtask s.ledger new → KeepsAndGoes rules s (after rules.lang s new None n)
  fails_to_copy ends =
      elim ends.either [
        | inl (inl e) ↦ subst (λ (l : Ledger). KeepsAndGoes rules s (after rules.lang s l None n)) (sym e) (keeps_down rules s keeps n)
        | inl (inr e) ↦
            subst (λ (l : Ledger). KeepsAndGoes rules s (after rules.lang s l None n)) (sym e)
            (begun_down rules s h n task subtask input channel ends.checkpoint ends.sink new keeps is at_task leads ends.barrier ends.copies ends.was (subst IsOrdered e ordered))
        | inr e ↦
            let done = ledger_copies rules s h n task subtask input channel ends.checkpoint ends.sink new keeps is at_task leads ends.barrier ends.copies ends.was new e in
            copied_down rules s h n task subtask input channel ends.checkpoint ends.sink new keeps is at_task leads ends.barrier ends.copies ends.was done (pre_subtasks ends.sink ends.checkpoint e) ordered
      ]

  -- nothing changed
  still : k ≡ h → new ≡ s.ledger → KeepsAndGoes rules s (after rules.lang s new (Some k) n)
  still same e = keeps_still_with rules s h k n task subtask input channel new keeps is at_task ordered leads same e

  pub keeps_sink_barrier : (result : Result Effect CoreFault) → EndsSinkBarrier task input h k channel subtask s.ledger new result
      → KeepsAndGoes rules s (record s { ledger = new; held = left_by result (Some k); faults = n })
  keeps_sink_barrier (Ok effect) ends =
      elim ends [
        | inl noted ↦
            subst (λ (l : Ledger). KeepsAndGoes rules s (after rules.lang s l (Some k) n)) (sym noted.1)
            (notes_barrier rules s h k n task input channel (role.Sink subtask) keeps is at_task leads effect noted.0)
        | inr copied ↦ copies_sink effect copied
      ]
  keeps_sink_barrier (Err ChannelBlocked) ends = still ends.1 ends.2
  keeps_sink_barrier (Err NotReady) ends = still ends.2 ends.3
  keeps_sink_barrier (Err Memory) ends = still ends.2 ends.3
  keeps_sink_barrier (Err Device) ends = fails_to_copy ends
  keeps_sink_barrier (Err other) ends = absurd ends
