-- Each call of a running job, as steps of the model's engine.
use Rattle.std.proofs.Common.{◌≡◌, ◌<◌, inl, inr, Option, Some, None, slice_get, slice_set, unwrap_or, length, ℕ, true, List, [], refl, sym, ap, ◌∙◌}
use Rattle.std.specs.Option.{option_map}
use Rattle.std.proofs.lemmas.Bool.Decides.{eqb_tells}
use Rattle.abs_codec.specs.Entries.{value_at}
use Rattle.alignment.specs.Table.{effect_of}
use Rattle.channels.specs.declared.item.Item.TheVariants.{Record}
use Rattle.checkpoint_model.specs.Attempt.{Attempt}
use Rattle.checkpoint_model.specs.Engine.{Running}
use Rattle.checkpoint_model.specs.EngineLaws.{with_attempt}
use Rattle.checkpoint_model.specs.Headline.{RunningStep, MovesPlainly, TakesABarrier, CopiesATask}
use Rattle.checkpoint_model.proofs.PrunedViews.{same_run}
use Rattle.dataflow_model.specs.Graph.{Outcome, Task, SourceTask, OperatorTask, SinkTask}
use Rattle.dataflow_model.specs.Machine.{Read, Work, state_under}
use Rattle.job_graph.specs.Expanded.{IsExpanded}
use Rattle.job_graph.specs.declared.role.Role.{Role}
use Rattle.job_graph.specs.declared.role.Role.TheVariants as role
use Rattle.job_graph.specs.PlainGraph.{task_of, operator_task}
use Rattle.job_graph.proofs.PlainTasks.{tasks-graph_of}
use Rattle.job_state.specs.Held.{Held, copy_at, gate_at, barrier_taken, Reads, Operates, CopiesSource, CopiesOperator}
use Rattle.job_state.specs.Sending.{items_at}
use Rattle.job_state.specs.declared.holding.Holding.TheVariants as holds
use Rattle.source_log.specs.Partitions.{records_at}
use Rattle.task_part.specs.declared.part.Part.{Part}
use Rattle.task_part.specs.declared.part.Part.TheVariants as part
use Rattle.engine_model.specs.Calls.{input_at, is_copy, IsBlocked, IsBarrierNext}
use Rattle.engine_model.specs.Keeps.{GateFits}
use Rattle.engine_model.specs.Language.{Language}
use Rattle.engine_model.specs.State.{State}
use Rattle.engine_model.specs.View.{named_by, attempt_of, run_of, job_of, is_logged_in, devices_of}
use Rattle.engine_model.proofs.Lists.{get_set_other}
use Rattle.engine_model.proofs.Moves.{reads_move, operates_move}
use Rattle.engine_model.proofs.Copies.{source_copies, takes_barrier, operator_copies}

source_is_none : {O : Type 0} (p : ℕ) → ◌≡◌ {A = Task O} (SourceTask p) SinkTask → ⊥
source_is_none p e = cc

operator_is_none : {O : Type 0} (op : O) → ◌≡◌ {A = Task O} (OperatorTask op) SinkTask → ⊥
operator_is_none op e = cc

module _ {R K S O : Type 0} (lang : Language R K S O) (s : State O R K S) (h k : Held R K S) where
  abbrev before : Running R K S
  before = run_of lang.cmp s.graph h

  abbrev now : Running R K S
  now = run_of lang.cmp s.graph k

  abbrev next_state : State O R K S
  next_state = record s { held = Some k }

  -- a step of the engine that leaves the devices
  abbrev pub StepsAlone : Running R K S → Running R K S → Type 0
  StepsAlone from to = RunningStep (job_of lang s) (is_logged_in s) lang.spelling (devices_of lang s) (devices_of lang s) from to

  -- what an attempt holds beside its tasks, channels and copies
  with_same : k.copies ≡ h.copies → k.coordination ≡ h.coordination → now ≡ with_attempt (attempt_of lang.cmp k) before
  with_same copies coordination =
      same_run now (with_attempt (attempt_of lang.cmp k) before) refl (ap (λ c. unwrap_or c.pending 0) coordination)
      (λ t. ap (λ (x : List (Option (Part R K S))). named_by (slice_get s.graph.tasks t) (unwrap_or (slice_get x t) None)) copies)

  pub read_runs : (task partition offset : ℕ) (row : R) → slice_get s.graph.tasks task ≡ Some (role.Source partition) → slice_get h.tasks task ≡ Some (holds.Source offset) → slice_get (records_at s.partitions partition) offset ≡ Some row →
      Reads lang.meaning s.graph task offset row h k → StepsAlone before now
  unfolding reads_move
  read_runs task partition offset row is at next reads =
      MovesPlainly (Read task) (record {
        attempt = attempt_of lang.cmp k;
        moves = reads_move lang s h k task partition offset row is at next reads;
        at_sink = λ e. absurd (source_is_none partition e);
        elsewhere = λ not_sink. refl;
        ends = with_same (ap (λ (x : Held R K S). x.copies) reads.ends) (ap (λ (x : Held R K S). x.coordination) reads.ends);
      })

  module _ (task number input channel : ℕ) (operator : O) (row : R) (entries : List (K × S)) (is : slice_get s.graph.tasks task ≡ Some (role.Operator number)) (op : slice_get s.operators number ≡ Some operator)
      (leads : input_at s.graph task input ≡ Some channel) (fits : GateFits s.graph h task) (log_each : length h.logs ≡ length s.graph.channels) (free : IsBlocked task input h → ⊥)
      (head : slice_get (items_at h.channels channel) 0 ≡ Some (Record row)) (was : slice_get h.tasks task ≡ Some (holds.Operator entries)) where
    abbrev outcome : Outcome R S
    outcome = lang.meaning.apply operator (state_under (lang.meaning.key operator row) (lang.meaning.fresh operator) (value_at lang.cmp entries)) row

    pub operate_runs : Operates lang.meaning lang.cmp s.graph task input channel row (lang.meaning.key operator row) outcome.state outcome.sent h k → StepsAlone before now
    unfolding operates_move
    operate_runs operates =
        MovesPlainly (Work task channel) (record {
          attempt = attempt_of lang.cmp k;
          moves = operates_move lang s h k task number input channel operator row entries is op leads fits log_each free head was operates;
          at_sink = λ e. absurd (operator_is_none operator e);
          elsewhere = λ not_sink. refl;
          ends = with_same (ap (λ (x : Held R K S). x.copies) operates.ends) (ap (λ (x : Held R K S). x.coordination) operates.ends);
        })

  -- a task that is no sink has copied
  with_copy : (task : ℕ) (r : Role) (p : Part R K S) (a : Attempt R K S) → task < length h.copies → slice_get s.graph.tasks task ≡ Some r → ((copy : Option (Part R K S)) → named_by (Some r) copy ≡ []) → k.copies ≡ slice_set h.copies task (Some p) → k.coordination ≡ h.coordination → now ≡ with_attempt (attempt_of lang.cmp k) (with_attempt a before)
  with_copy task r p a within is no_names copies coordination =
      same_run now (with_attempt (attempt_of lang.cmp k) (with_attempt a before)) refl (ap (λ c. unwrap_or c.pending 0) coordination)
      (λ t.
      ap (λ (x : List (Option (Part R K S))). named_by (slice_get s.graph.tasks t) (unwrap_or (slice_get x t) None)) copies
      ∙ elim (eqb_tells t task) [
        | inl same ↦
            let role_is : slice_get s.graph.tasks t ≡ Some r = ap (slice_get s.graph.tasks) same.1 ∙ is in
            rw role_is (no_names (unwrap_or (slice_get (slice_set h.copies task (Some p)) t) None) ∙ sym (no_names (copy_at h t)))
        | inr other ↦ ap (λ (o : Option (Option (Part R K S))). named_by (slice_get s.graph.tasks t) (unwrap_or o None)) (get_set_other h.copies task t (Some p) other.1)
      ])

  pub inject_runs : (task partition offset checkpoint : ℕ) → IsExpanded s.graph → slice_get s.graph.tasks task ≡ Some (role.Source partition) → slice_get h.tasks task ≡ Some (holds.Source offset) → h.coordination.pending ≡ Some checkpoint → copy_at h task ≡ None → task < length h.copies →
      CopiesSource s.graph task offset checkpoint h k → StepsAlone before now
  inject_runs task partition offset checkpoint expanded is at pending none within copies =
      CopiesATask task (record {
        attempt = attempt_of lang.cmp k;
        copies = source_copies lang s h k task partition offset checkpoint expanded is at pending none within copies;
        kind = SourceTask partition;
        is_task = tasks-graph_of s.graph s.operators task ∙ ap (option_map (task_of s.operators)) is;
        elsewhere = λ not_sink. (refl, with_copy task (role.Source partition) (part.Source offset) before.attempt within is (λ copy. refl) (ap (λ (x : Held R K S). x.copies) copies.ends) (ap (λ (x : Held R K S). x.coordination) copies.ends));
        at_sink = λ e. absurd (source_is_none partition e);
      })

  module _ (task input channel checkpoint : ℕ) (leads : input_at s.graph task input ≡ Some channel) (fits : GateFits s.graph h task) (came_each : length h.came ≡ length s.graph.channels) (barrier : IsBarrierNext h channel checkpoint) where
    -- the barrier is taken
    abbrev pub between : Running R K S
    between = run_of lang.cmp s.graph (barrier_taken task input channel checkpoint h)

    pub barrier_runs : StepsAlone before between
    barrier_runs = TakesABarrier channel (record { attempt = between.attempt; takes = takes_barrier lang s h k task input channel checkpoint leads fits came_each barrier; same = refl; ends = refl })

    pub operator_copy_runs : (number : ℕ) (operator : O) → slice_get s.graph.tasks task ≡ Some (role.Operator number) → slice_get s.operators number ≡ Some operator → task < length h.copies → is_copy (effect_of (gate_at h task) input) ≡ true
        → CopiesOperator s.graph task input channel checkpoint h k → StepsAlone between now
    operator_copy_runs number operator is op within is_copying copies =
        CopiesATask task (record {
          attempt = attempt_of lang.cmp k;
          copies = operator_copies lang s h k task input channel checkpoint leads fits came_each barrier within is_copying copies;
          kind = OperatorTask operator;
          is_task = tasks-graph_of s.graph s.operators task ∙ ap (option_map (task_of s.operators)) is ∙ ap (λ (o : Option O). Some (operator_task o)) op;
          elsewhere = λ not_sink. (refl, with_copy task (role.Operator number) (part.Operator copies.entries []) between.attempt within is (λ copy. refl) (ap (λ (x : Held R K S). x.copies) copies.ends) (ap (λ (x : Held R K S). x.coordination) copies.ends));
          at_sink = λ e. absurd (operator_is_none operator e);
        })
