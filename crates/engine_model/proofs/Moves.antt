-- What an attempt does when records move is a move of the model's attempt.
use Rattle.std.proofs.Common.{◌≡◌, ◌<◌, ◌+◌, ◌==◌, ◌++◌, inl, inr, if◌then◌else◌, Option, Some, slice_get, slice_set, unwrap_or, length, map, drop, ℕ, Bool, true, false, not, ◌&&◌, List, [], ◌∷◌, refl, sym, ap, ap₂, subst, ◌∙◌, is_some}
use Rattle.std.specs.Option.{option_map}
use Rattle.std.proofs.lemmas.Bool.Decides.{eqb_tells}
use Rattle.std.proofs.lemmas.Option.{slice_get_within, same_Some}
use mathlib.Core.Path.{fun_ext}
use Rattle.abs_codec.specs.Entries.{value_at}
use Rattle.alignment.specs.Table.{is_logged}
use Rattle.channels.specs.declared.item.Item.TheVariants.{Record}
use Rattle.checkpoint_model.specs.Attempt as attempt
use Rattle.checkpoint_model.specs.Attempt.{Attempt, Moves, moved, logs_after}
use Rattle.checkpoint_model.proofs.Seen.{same_attempt}
use Rattle.dataflow_model.specs.Graph.{Outcome, SourceTask, OperatorTask}
use Rattle.dataflow_model.specs.Machine.{TaskState, Effect, Read, Work, handled, received, kept_under, state_under}
use Rattle.job_graph.specs.declared.role.Role.TheVariants as role
use Rattle.job_graph.specs.PlainGraph.{task_of, operator_task}
use Rattle.job_graph.proofs.PlainTasks.{tasks-graph_of}
use Rattle.job_state.specs.Held.{Held, copy_at, came_at, gate_at, logged_at, log_with, record_taken, Reads, Operates}
use Rattle.job_state.specs.Sending.{items_at, without_head}
use Rattle.job_state.specs.declared.holding.Holding.{Holding}
use Rattle.job_state.specs.declared.holding.Holding.TheVariants as holds
use Rattle.source_log.specs.Partitions.{records_at}
use Rattle.engine_model.specs.Calls.{input_at, IsBlocked}
use Rattle.engine_model.specs.Keeps.{GateFits}
use Rattle.engine_model.specs.Language.{Language}
use Rattle.engine_model.specs.State.{State}
use Rattle.engine_model.specs.View.{held_state, copied_state, attempt_of, job_of}
use Rattle.engine_model.proofs.Lists.{get_set_same, get_set_other}
use Rattle.engine_model.proofs.Calls.Tasks.{LeadsTo, input_leads}
use Rattle.engine_model.proofs.Shape.Gates.{free_not_came, logs_when}
use Rattle.engine_model.proofs.Items.{plain, plain_records, plain_put, taken, first_record}

-- the logs with one record more
logs_with : {R : Type 0} (b : Bool) (channel : ℕ) (row : R) (logs : List (List R)) → channel < length logs → (c : ℕ) →
    unwrap_or (slice_get (log_with b channel row logs) c) [] ≡ (if (c == channel) && b then unwrap_or (slice_get logs c) [] ++ row ∷ [] else unwrap_or (slice_get logs c) [])
logs_with {R} true channel row logs within c =
    let more : List R = unwrap_or (slice_get logs channel) [] ++ row ∷ [] in
    elim (eqb_tells c channel) [
      | inl same ↦
          rw same.0
          (ap (λ (n : ℕ). unwrap_or (slice_get (slice_set logs channel more) n) []) same.1 ∙ ap (λ (o : Option (List R)). unwrap_or o []) (get_set_same logs channel more within)
          ∙ ap (λ (n : ℕ). unwrap_or (slice_get logs n) [] ++ row ∷ []) (sym same.1))
      | inr other ↦ rw other.0 (ap (λ (o : Option (List R)). unwrap_or o []) (get_set_other logs channel c more other.1))
    ]
logs_with false channel row logs within c = elim (eqb_tells c channel) [ inl same ↦ rw same.0 refl | inr other ↦ rw other.0 refl ]

module _ {R K S O : Type 0} (lang : Language R K S O) (s : State O R K S) (h k : Held R K S) where
  abbrev before : Attempt R K S
  before = attempt_of lang.cmp h

  abbrev now : Attempt R K S
  now = attempt_of lang.cmp k

  -- one task's holding has changed
  pub tasks_changed : (tasks : List (Holding K S)) (task : ℕ) (holding : Holding K S) (state : TaskState R K S) → task < length tasks → held_state lang.cmp (Some holding) ≡ state → (t : ℕ) →
      held_state {R = R} lang.cmp (slice_get (slice_set tasks task holding) t) ≡ (if t == task then state else held_state lang.cmp (slice_get tasks t))
  tasks_changed tasks task holding state within is t =
      elim (eqb_tells t task) [
        | inl same ↦ rw same.0 (ap (λ (n : ℕ). held_state {R = R} lang.cmp (slice_get (slice_set tasks task holding) n)) same.1 ∙ ap (held_state lang.cmp) (get_set_same tasks task holding within) ∙ is)
        | inr other ↦ rw other.0 (ap (held_state lang.cmp) (get_set_other tasks task t holding other.1))
      ]

  module _ (task partition offset : ℕ) (row : R) (is : slice_get s.graph.tasks task ≡ Some (role.Source partition)) (at : slice_get h.tasks task ≡ Some (holds.Source offset))
      (next : slice_get (records_at s.partitions partition) offset ≡ Some row) (reads : Reads lang.meaning s.graph task offset row h k) where
    unfoldable pub reads_move : Moves (job_of lang s) (Read task) before now
    reads_move = record {
      kind = SourceTask partition;
      taken = row;
      is_task = tasks-graph_of s.graph s.operators task ∙ ap (option_map _) is;
      takes = (partition, refl, ap (λ (o : Option (Holding K S)). slice_get (records_at s.partitions partition) (held_state {R = R} lang.cmp o).offset) at ∙ next);
      ends =
          same_attempt now (moved (job_of lang s) (Read task) row (handled lang.meaning (SourceTask partition) (before.tasks task) row) before)
          (λ t. ap (λ (x : Held R K S). held_state lang.cmp (slice_get x.tasks t)) reads.ends ∙ tasks_changed h.tasks task (holds.Source (offset + 1)) (handled lang.meaning (SourceTask partition) (before.tasks task) row).held (slice_get_within h.tasks task (holds.Source offset) at) (ap risen (sym at)) t)
          (λ c. plain_put (λ n. map Record (received lang.meaning task ((0, row) ∷ []) (slice_get s.graph.channels n))) h.channels k.channels reads.sent c ∙ ap (λ rows. plain (items_at h.channels c) ++ rows) (plain_records (received lang.meaning task ((0, row) ∷ []) (slice_get s.graph.channels c))))
          (ap (λ (x : Held R K S). is_some x.coordination.pending) reads.ends)
          (λ t. ap (λ (x : Held R K S). is_some (copy_at x t)) reads.ends)
          (λ t. ap (λ (x : Held R K S). copied_state lang.cmp (copy_at x t)) reads.ends)
          (λ c. ap (λ (x : Held R K S). came_at x c) reads.ends)
          (λ c. ap (λ (x : Held R K S). logged_at x c) reads.ends);
    }
      where
        risen : Option (Holding K S) → TaskState R K S
        risen o = record (held_state lang.cmp o) { offset = (held_state {R = R} lang.cmp o).offset + 1 }

  -- a task that takes a record from an input, which is this channel
  module _ (task input channel : ℕ) (leads : input_at s.graph task input ≡ Some channel) (fits : GateFits s.graph h task) (log_each : length h.logs ≡ length s.graph.channels) where
    within_logs : channel < length h.logs
    within_logs =
        let to : LeadsTo s.graph task channel = input_leads s.graph task input channel leads in
        subst (λ (m : ℕ). channel < m) (sym log_each) (slice_get_within s.graph.channels channel to.channel to.is)

    -- the logs are the model's
    pub same_logs : (row : R) (c : ℕ) → logged_at (record_taken task input channel row h) c ≡ logs_after (Work task channel) row before c
    same_logs row c =
        logs_with (is_logged (gate_at h task) input) channel row h.logs within_logs c
        ∙ elim (eqb_tells c channel) [
          | inl same ↦
              rw same.0
              (ap (λ (b : Bool). if b then logged_at h c ++ row ∷ [] else logged_at h c)
              (logs_when s.graph h task fits input channel leads ∙ ap (λ (n : ℕ). is_some (copy_at h task) && not (came_at h n)) (sym same.1)))
          | inr other ↦ rw other.0 refl
        ]

  module _ (task number input channel : ℕ) (operator : O) (row : R) (entries : List (K × S)) (is : slice_get s.graph.tasks task ≡ Some (role.Operator number)) (op : slice_get s.operators number ≡ Some operator)
      (leads : input_at s.graph task input ≡ Some channel) (fits : GateFits s.graph h task) (log_each : length h.logs ≡ length s.graph.channels) (free : IsBlocked task input h → ⊥)
      (head : slice_get (items_at h.channels channel) 0 ≡ Some (Record row)) (was : slice_get h.tasks task ≡ Some (holds.Operator entries)) where
    abbrev outcome : Outcome R S
    outcome = lang.meaning.apply operator (state_under (lang.meaning.key operator row) (lang.meaning.fresh operator) (value_at lang.cmp entries)) row

    module _ (operates : Operates lang.meaning lang.cmp s.graph task input channel row (lang.meaning.key operator row) outcome.state outcome.sent h k) where
      pub same_entries : operates.entries ≡ entries
      same_entries = operator_entries operates.entries entries (same_Some (holds.Operator operates.entries) (holds.Operator entries) (sym operates.was ∙ was))
        where
          operator_entries : (a b : List (K × S)) → holds.Operator a ≡ holds.Operator b → a ≡ b
          operator_entries a b e = cc

      -- the operator's effect
      abbrev pub effect : Effect R K S
      effect = handled lang.meaning (OperatorTask operator) (before.tasks task) row

      abbrev to : LeadsTo s.graph task channel
      to = input_leads s.graph task input channel leads

      unfoldable pub operates_move : Moves (job_of lang s) (Work task channel) before now
      operates_move = record {
        kind = OperatorTask operator;
        taken = row;
        is_task = tasks-graph_of s.graph s.operators task ∙ ap (option_map (task_of s.operators)) is ∙ ap (λ (o : Option O). Some (operator_task o)) op;
        takes = (to.channel, tt, to.is, to.to, first_record (items_at h.channels channel) row head, free_not_came s.graph h task fits input channel leads free);
        ends =
            same_attempt now (moved (job_of lang s) (Work task channel) row effect before)
            (λ t. ap (λ (x : Held R K S). held_state lang.cmp (slice_get x.tasks t)) operates.ends ∙ tasks_changed h.tasks task (holds.Operator operates.kept) effect.held (slice_get_within h.tasks task (holds.Operator entries) was) (states_kept ∙ ap (λ o. (handling o).held) (sym was)) t)
            (λ c.
            plain_put (λ n. map Record (received lang.meaning task outcome.sent (slice_get s.graph.channels n))) (without_head channel h.channels) k.channels operates.puts c
            ∙ ap₂ (λ (x y : List (attempt.Item R)). x ++ y) (taken channel h.channels c) (plain_records (received lang.meaning task outcome.sent (slice_get s.graph.channels c)))
            ∙ ap (λ (o : Option (Holding K S)). (if c == channel then drop 1 (plain (items_at h.channels c)) else plain (items_at h.channels c)) ++ map attempt.Record (received lang.meaning task (handling o).sent (slice_get s.graph.channels c))) (sym was))
            (ap (λ (x : Held R K S). is_some x.coordination.pending) operates.ends)
            (λ t. ap (λ (x : Held R K S). is_some (copy_at x t)) operates.ends)
            (λ t. ap (λ (x : Held R K S). copied_state lang.cmp (copy_at x t)) operates.ends)
            (λ c. ap (λ (x : Held R K S). came_at x c) operates.ends)
            (λ c. ap (λ (x : Held R K S). logged_at x c) operates.ends ∙ same_logs task input channel leads fits log_each row c);
      }
        where
          handling : Option (Holding K S) → Effect R K S
          handling o = handled lang.meaning (OperatorTask operator) (held_state lang.cmp o) row

          states_kept : held_state lang.cmp (Some (holds.Operator operates.kept)) ≡ (handling (Some (holds.Operator entries))).held
          states_kept =
              ap (λ (st : K → Option S). as_states st)
              (fun_ext (λ q. operates.keeps q ∙ ap (λ (es : List (K × S)). kept_under lang.meaning.same_key (lang.meaning.key operator row) outcome.state (value_at lang.cmp es) q) same_entries))
            where
              as_states : (K → Option S) → TaskState R K S
              as_states st = record { offset = 0; states = st; output = [] }
