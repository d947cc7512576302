-- What is held of a run takes each step that the run takes.
use Rattle.std.proofs.Common.{◌≡◌, ℕ, ◌==◌, Bool, true, false, ◌&&◌, if◌then◌else◌, inl, inr, List, [], ◌++◌, map, slice_get, Some, refl, sym, ap, ◌∙◌, subst}
use Rattle.std.proofs.lemmas.Bool.{and_from, and_right, eqb-true}
use Rattle.std.proofs.lemmas.Option.{same_Some}
use Rattle.dataflow_model.specs.Graph.{Meaning, Task, SourceTask, OperatorTask, SinkTask, Job}
use Rattle.dataflow_model.specs.Machine.{TaskState, Configuration, Move, Read, Work, mover, left, handled, received, fresh_task}
use Rattle.checkpoint_model.specs.Attempt.{Record, Attempt, moved, logs_after, TakesFirst, barrier_taken, Copies, task_copied}
use Rattle.checkpoint_model.specs.Durable.{Part, Devices, IsSink, HasParts, PreCommits, ChangesSink, ChangesStore, with_part, with_complete}
use Rattle.checkpoint_model.specs.Engine.{Running, IsPartOf}
use Rattle.checkpoint_model.specs.EngineLaws.{with_attempt}
use Rattle.checkpoint_model.specs.Headline.{RunningStep, MovesPlainly, TakesABarrier, CopiesATask, TriggersACheckpoint, DiscardsParts, PersistsAPart, CompletesACheckpoint, CommitsATransaction, Runs, Fails, Calls, Restarts}
use Rattle.checkpoint_model.specs.Seen.{without_output, IsSeenRestored}
use Rattle.checkpoint_model.specs.Pruned.{has_copy, pruned, pruned_run, pruned_running, PrunedRuns, PrunedFails, PrunedCalls, PrunedRestarts}
use Rattle.checkpoint_model.specs.PrunedLaws.{OnlySinksName, StepsArePruned, EngineStepsArePruned}
use Rattle.checkpoint_model.proofs.Seen.{same_attempt}
use Rattle.checkpoint_model.proofs.Steps.{sink_or_not}
use Rattle.checkpoint_model.proofs.PrunedPlain.{same_sent}
use Rattle.checkpoint_model.proofs.PrunedViews.{same_run, pruned_twice}

-- Of locals, as the steps below have them: whether one is pending, whether this is the task that copies, whether the task has copied.
and_twice : (p c : Bool) → (p && (p && c)) ≡ (p && c)
and_twice true c = refl
and_twice false c = refl

and_mark : (p b c : Bool) → (p && (if b then true else (p && c))) ≡ (p && (if b then true else c))
and_mark true b c = refl
and_mark false b c = refl

if_pending : {A : Type 0} (p : Bool) (x y : A) → (if p then (if p then x else y) else y) ≡ (if p then x else y)
if_pending true x y = refl
if_pending false x y = refl

same_names : (p c : Bool) (names : List ℕ) → (if p && (p && c) then (if p && c then names else []) else []) ≡ (if p && c then names else [])
same_names true true names = refl
same_names true false names = refl
same_names false c names = refl

-- at a sink that copies
new_names : (p b c : Bool) (names named : List ℕ) → (if p && (if b then true else (p && c)) then (if b then names else (if p && c then named else [])) else []) ≡ (if p && (if b then true else c) then (if b then names else named) else [])
new_names true true c names named = refl
new_names true false true names named = refl
new_names true false false names named = refl
new_names false b c names named = refl

-- at another task, which has no names
old_names : (p b c : Bool) (named : List ℕ) → (b ≡ true → named ≡ []) → (if p && (if b then true else (p && c)) then (if p && c then named else []) else []) ≡ (if p && (if b then true else c) then named else [])
old_names true true true named none = refl
old_names true true false named none = sym (none refl)
old_names true false true named none = refl
old_names true false false named none = refl
old_names false b c named none = refl

module _ {R K S : Type 0} where
  same_copies : (p c : Bool) (copy : TaskState R K S) → (if p && (p && c) then without_output (if p && c then without_output copy else fresh_task) else fresh_task) ≡ (if p && c then without_output copy else fresh_task)
  same_copies true true copy = refl
  same_copies true false copy = refl
  same_copies false c copy = refl

  new_copies : (p b c : Bool) (now copy : TaskState R K S) → (if p && (if b then true else (p && c)) then without_output (if b then without_output now else (if p && c then without_output copy else fresh_task)) else fresh_task) ≡ (if p && (if b then true else c) then without_output (if b then now else copy) else fresh_task)
  new_copies true true c now copy = refl
  new_copies true false true now copy = refl
  new_copies true false false now copy = refl
  new_copies false b c now copy = refl

  now_pruned : (b : Bool) (x z y : TaskState R K S) → without_output x ≡ without_output z → without_output (if b then x else without_output y) ≡ without_output (if b then z else y)
  now_pruned true x z y e = e
  now_pruned false x z y e = refl

  pruned_logs : (p : Bool) (move : Move) (r : R) (a : Attempt R K S) (channel : ℕ) → (if p then logs_after move r (pruned (record a { pending = p })) channel else []) ≡ (if p then logs_after move r (record a { pending = p }) channel else [])
  pruned_logs true (Read task) r a channel = refl
  pruned_logs true (Work task input) r a channel = refl
  pruned_logs false move r a channel = refl

  barriers_pruned : (input : ℕ) (a : Attempt R K S) → pruned (barrier_taken input (pruned a)) ≡ pruned (barrier_taken input a)
  barriers_pruned input a =
      let p = a.pending in
      same_attempt _ _ (λ t. refl) (λ c. refl) refl (λ t. and_twice p (a.copied t)) (λ t. same_copies p (a.copied t) (a.copies t)) (λ c. and_mark p (c == input) (a.came c)) (λ c. if_pending p (a.logs c) [])

module _ {R K S O : Type 0} where
  pruned_state : (meaning : Meaning R K S O) (kind : Task O) (now : TaskState R K S) (r : R) → without_output (handled meaning kind (without_output now) r).held ≡ without_output (handled meaning kind now r).held
  pruned_state meaning (SourceTask p) now r = refl
  pruned_state meaning (OperatorTask o) now r = refl
  pruned_state meaning SinkTask now r = refl

  pruned_takes : (job : Job R K S O) (move : Move) (kind : Task O) (r : R) (a : Attempt R K S) → TakesFirst job move kind r a → TakesFirst job move kind r (pruned a)
  pruned_takes job (Read task) kind r a t = t
  pruned_takes job (Work task input) kind r a t = (t.0, t.1, t.2, t.3, t.4, λ e. waits a.pending (a.copied task) (a.came input) t.5 e)
    where
      waits : (p copied came : Bool) → (copied ≡ false → came ≡ false) → (p && copied) ≡ false → (p && came) ≡ false
      waits true copied came h e = h e
      waits false copied came h e = refl

  moved_pruned : (job : Job R K S O) (move : Move) (kind : Task O) (r : R) (a : Attempt R K S) → pruned (moved job move r (handled job.meaning kind (without_output (a.tasks (mover move))) r) (pruned a)) ≡ pruned (moved job move r (handled job.meaning kind (a.tasks (mover move)) r) a)
  moved_pruned job move kind r a =
      let p = a.pending in
      let now = a.tasks (mover move) in
      same_attempt _ _
      (λ t. now_pruned (t == mover move) _ _ (a.tasks t) (pruned_state job.meaning kind now r))
      (λ c. ap (λ sent. left move c (a.channels c) ++ map Record (received job.meaning (mover move) sent (slice_get job.graph.channels c))) (same_sent job.meaning kind (without_output now) now r refl))
      refl
      (λ t. and_twice p (a.copied t))
      (λ t. same_copies p (a.copied t) (a.copies t))
      (λ c. and_twice p (a.came c))
      (pruned_logs p move r a)

  copied_pruned : (job : Job R K S O) (task : ℕ) (a : Attempt R K S) → pruned (task_copied job task (pruned a)) ≡ pruned (task_copied job task a)
  copied_pruned job task a =
      let p = a.pending in
      same_attempt _ _
      (λ t. refl)
      (λ c. refl)
      refl
      (λ t. and_mark p (t == task) (a.copied t))
      (λ t. new_copies p (t == task) (a.copied t) (a.tasks t) (a.copies t))
      (λ c. and_twice p (a.came c))
      (λ c. if_pending p (a.logs c) [])

  part_pruned : (job : Job R K S O) (run : Running R K S) (task : ℕ) (part : Part R K S) → run.attempt.pending ≡ true → IsPartOf job run task part → IsPartOf job (pruned_run run) task part
  part_pruned job run task part e i =
      let a = run.attempt in
      let has : has_copy a task ≡ true = and_from a.pending (a.copied task) e i.copied in
      let copy : without_output (a.copies task) ≡ (pruned a).copies task = ap (λ b. if b then without_output (a.copies task) else fresh_task) (sym has) in
      record {
        copied = has;
        closed = λ number channel at receiver. and_from a.pending (a.came number) e (i.closed number channel at receiver);
        offset = i.offset ∙ ap (λ (h : TaskState R K S). h.offset) copy;
        states = i.states ∙ ap (λ (h : TaskState R K S). h.states) copy;
        logs = λ number channel at receiver. i.logs number channel at receiver ∙ ap (λ b. if b then a.logs number else []) (sym e);
        names = λ sink. i.names sink ∙ ap (λ b. if b then run.named task else []) (sym has);
      }

module _ {R K S O B : Type 0} (job : Job R K S O) (is_logged : ℕ → Bool) (spell : R → B) (old new : Devices R K S B) (run : Running R K S) (only_sinks : OnlySinksName job run) where
  abbrev Pruned : Running R K S → Type 0
  Pruned next = (middle : Running R K S) × RunningStep job is_logged spell old new (pruned_run run) middle × (pruned_run middle ≡ pruned_run next)

  abbrev p : Bool
  p = run.attempt.pending

  number_pruned : run.attempt.pending ≡ true → run.number ≡ (pruned_run run).number
  number_pruned e = ap (λ b. if b then run.number else 0) (sym e)

  names_pruned : (task : ℕ) → (if p && (p && run.attempt.copied task) then (pruned_run run).named task else []) ≡ (pruned_run run).named task
  names_pruned task = same_names p (run.attempt.copied task) (run.named task)

  pruned_copies : (task : ℕ) (a : Attempt R K S) → Copies job is_logged task run.attempt a → Copies job is_logged task (pruned run.attempt) (task_copied job task (pruned run.attempt))
  pruned_copies task a c =
      record {
        is_pending = c.is_pending;
        is_first = and_right p (run.attempt.copied task) c.is_first;
        all_came = λ input channel at receiver unlogged. and_from p (run.attempt.came input) c.is_pending (c.all_came input channel at receiver unlogged);
        ends = refl;
      }

  lower : (next : Running R K S) → RunningStep job is_logged spell old new run next → Pruned next
  lower next (MovesPlainly move m) =
      let k = m.moves in
      let now = run.attempt.tasks (mover move) in
      let to = moved job move k.taken (handled job.meaning k.kind (without_output now) k.taken) (pruned run.attempt) in
      let full = moved job move k.taken (handled job.meaning k.kind now k.taken) run.attempt in
      let same : pruned_run (with_attempt to (pruned_run run)) ≡ pruned_run (with_attempt full run) = same_run _ _ (moved_pruned job move k.kind k.taken run.attempt) (if_pending p run.number 0) names_pruned in
      let is : next ≡ with_attempt full run = m.ends ∙ ap (λ a. with_attempt a run) k.ends in (
        with_attempt to (pruned_run run),
        MovesPlainly move
            (record {
              attempt = to;
              moves = record { kind = k.kind; taken = k.taken; is_task = k.is_task; takes = pruned_takes job move k.kind k.taken run.attempt k.takes; ends = refl };
              at_sink = m.at_sink;
              elsewhere = m.elsewhere;
              ends = refl;
            }),
        same ∙ ap pruned_run (sym is),
      )
  lower next (TakesABarrier input m) =
      let to = barrier_taken input (pruned run.attempt) in
      let full = barrier_taken input run.attempt in
      let same : pruned_run (with_attempt to (pruned_run run)) ≡ pruned_run (with_attempt full run) = same_run _ _ (barriers_pruned input run.attempt) (if_pending p run.number 0) names_pruned in
      let is : next ≡ with_attempt full run = m.ends ∙ ap (λ a. with_attempt a run) m.takes.ends in (
        with_attempt to (pruned_run run),
        TakesABarrier input (record { attempt = to; takes = record { is_first = m.takes.is_first; ends = refl }; same = m.same; ends = refl }),
        same ∙ ap pruned_run (sym is),
      )
  lower next (CopiesATask task m) =
      let to = task_copied job task (pruned run.attempt) in
      let full = task_copied job task run.attempt in
      let c = pruned_copies task m.attempt m.copies in
      elim (sink_or_not m.kind) [
        | inl here ↦
            let a = m.at_sink here in
            let named : ℕ → List ℕ = λ other. if other == task then a.5 else (pruned_run run).named other in
            let middle : Running R K S = record { attempt = to; number = (pruned_run run).number; named = named } in
            let whole : Running R K S = record { attempt = full; number = run.number; named = λ other. if other == task then a.5 else run.named other } in
            let Pre : ℕ → Type 0 = λ n. (pre : ChangesSink task (λ x y. PreCommits old.store.line n x y) a.1 new) × (pre.sink.front ≡ []) in
            let pre : Pre (pruned_run run).number = subst Pre (number_pruned m.copies.is_pending) (a.3, a.4) in
            let same : pruned_run middle ≡ pruned_run whole =
            same_run _ _ (copied_pruned job task run.attempt) (if_pending p run.number 0) (λ t. new_names p (t == task) (run.attempt.copied t) a.5 (run.named t)) in
            let is : next ≡ whole = a.7 ∙ ap (λ x. record { attempt = x; number = run.number; named = whole.named }) m.copies.ends in (
              middle,
              CopiesATask task
                  (record {
                    attempt = to;
                    copies = c;
                    kind = m.kind;
                    is_task = m.is_task;
                    elsewhere = λ not_here. absurd (not_here here);
                    at_sink = λ e. (a.0, a.1, a.2, pre.0, pre.1, a.5, a.6, refl);
                  }),
              same ∙ ap pruned_run (sym is),
            )
        | inr elsewhere ↦
            let e = m.elsewhere elsewhere in
            let no_sink : IsSink job task → ⊥ = λ sink. elsewhere (same_Some m.kind SinkTask (sym m.is_task ∙ sink)) in
            let none : (t : ℕ) → (t == task) ≡ true → run.named t ≡ [] = λ t b. ap run.named (eqb-true t task b) ∙ only_sinks task no_sink in
            let same : pruned_run (with_attempt to (pruned_run run)) ≡ pruned_run (with_attempt full run) =
            same_run _ _ (copied_pruned job task run.attempt) (if_pending p run.number 0) (λ t. old_names p (t == task) (run.attempt.copied t) (run.named t) (none t)) in
            let is : next ≡ with_attempt full run = e.1 ∙ ap (λ a. with_attempt a run) m.copies.ends in (
              with_attempt to (pruned_run run),
              CopiesATask task
                  (record {
                    attempt = to;
                    copies = c;
                    kind = m.kind;
                    is_task = m.is_task;
                    elsewhere = λ f. (e.0, refl);
                    at_sink = λ here. absurd (elsewhere here);
                  }),
              same ∙ ap pruned_run (sym is),
            )
      ]
  lower next (TriggersACheckpoint m) =
      let begin : Attempt R K S → Attempt R K S = λ a. record a { pending = true; copied = λ task. false; came = λ channel. false; logs = λ channel. [] } in
      let middle : Running R K S = record { attempt = begin (pruned run.attempt); number = old.store.next; named = (pruned_run run).named } in
      let is : next ≡ record { attempt = begin run.attempt; number = old.store.next; named = run.named } =
      m.ends ∙ ap (λ a. record { attempt = a; number = old.store.next; named = run.named }) m.triggers.ends in (
        middle,
        TriggersACheckpoint (record { attempt = begin (pruned run.attempt); triggers = record { none_pending = m.triggers.none_pending; ends = refl }; reserves = m.reserves; ends = refl }),
        ap pruned_run (sym is),
      )
  lower next (DiscardsParts n m) = (pruned_run run, DiscardsParts n (record { discards = m.discards; ends = refl }), pruned_twice run ∙ ap pruned_run (sym m.ends))
  lower next (PersistsAPart task m) = (
    pruned_run run,
    PersistsAPart task
        (record {
          is_pending = m.is_pending;
          part = m.part;
          is_part = part_pruned job run task m.part m.is_pending m.is_part;
          puts = subst (λ n. ChangesStore (with_part n task m.part old.store) old new) (number_pruned m.is_pending) m.puts;
          ends = refl;
        }),
    pruned_twice run ∙ ap pruned_run (sym m.ends),
  )
  lower next (CompletesACheckpoint m) =
      let to : Attempt R K S = record (pruned run.attempt) { pending = false } in (
        with_attempt to (pruned_run run),
        CompletesACheckpoint
            (record {
              is_pending = m.is_pending;
              has_parts = subst (λ n. HasParts job old.store n) (number_pruned m.is_pending) m.has_parts;
              completes = subst (λ n. ChangesStore (with_complete n old.store) old new) (number_pruned m.is_pending) m.completes;
              ends = refl;
            }),
        ap pruned_run (sym m.ends),
      )
  lower next (CommitsATransaction task m) =
      (pruned_run run, CommitsATransaction task (record { commits = m.commits; is_first = m.is_first; ends = refl }), pruned_twice run ∙ ap pruned_run (sym m.ends))

module _ {R K S O B : Type 0} where
  pub steps_pruned : (job : Job R K S O) (spell : R → B) → StepsArePruned job spell
  steps_pruned job spell is_logged old new run next only_sinks step = lower job is_logged spell old new run only_sinks next step

  pub engine_steps_pruned : (job : Job R K S O) (spell : R → B) → EngineStepsArePruned job spell
  engine_steps_pruned job spell is_logged old new only_sinks (Runs run next was now step) =
      let x = lower job is_logged spell old.devices new.devices run (only_sinks run was) next step in
      PrunedRuns (pruned_run run) x.0 (ap pruned_running was) (ap pruned_running now ∙ ap (λ r. Some r) (sym x.2)) x.1
  engine_steps_pruned job spell is_logged old new only_sinks (Fails down same) = PrunedFails (ap pruned_running down) same
  engine_steps_pruned job spell is_logged old new only_sinks (Calls call was down does) = PrunedCalls call (ap pruned_running was) (ap pruned_running down) does
  engine_steps_pruned job spell is_logged old new only_sinks (Restarts base number named was settled restored same now) =
      let erased : Configuration R K S → Configuration R K S = λ c. record { tasks = λ task. without_output (c.tasks task); channels = c.channels } in
      let seen_restored : IsSeenRestored job old.devices (erased base) =
      record {
        parts = λ front n e. let c = restored.parts front n e in record { offsets = c.offsets; states = c.states; channels = c.channels };
        from_start = λ e. ap erased (restored.from_start e);
        tasks = λ task none. ap without_output (restored.elsewhere.tasks task none);
        outputs = λ task. refl;
        channels = restored.elsewhere.channels;
      } in
      PrunedRestarts (erased base) (ap pruned_running was) settled seen_restored same (ap pruned_running now)
