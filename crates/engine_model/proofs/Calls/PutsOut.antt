-- A sink puts its first record last in its open transaction.
use Rattle.std.proofs.Common.{◌≡◌, ◌<◌, ◌==◌, ◌++◌, if◌then◌else◌, inl, inr, Option, Some, None, Result, Ok, Err, slice_get, length, map, drop, is_some, ℕ, Bool, true, false, List, [], refl, sym, ap, subst, ◌∙◌}
use Rattle.std.specs.Option.{option_map}
use Rattle.std.proofs.lemmas.Bool.Decides.{eqb_tells}
use Rattle.std.proofs.lemmas.Option.{slice_get_within}
use Rattle.std.proofs.lemmas.List.{append-nil}
use Rattle.channels.specs.declared.item.Item.TheVariants.{Record}
use Rattle.checkpoint_model.specs.Attempt as attempt
use Rattle.checkpoint_model.specs.Attempt.{Attempt, moved}
use Rattle.checkpoint_model.specs.Durable.{Append, Appends}
use Rattle.checkpoint_model.specs.Engine.{Running}
use Rattle.checkpoint_model.specs.EngineLaws.{with_attempt}
use Rattle.checkpoint_model.specs.Headline.{MovesPlainly}
use Rattle.checkpoint_model.specs.Pruned.{pruned_run}
use Rattle.checkpoint_model.specs.Seen.{without_output}
use Rattle.checkpoint_model.proofs.PrunedViews.{same_run}
use Rattle.checkpoint_model.proofs.Seen.{same_attempt}
use Rattle.commit_sink.specs.Ledger.{Ledger, IsOrdered, appended}
use Rattle.commit_sink.specs.Sink.{Sinking}
use Rattle.dataflow_model.specs.Graph.{Meaning, SinkTask, Channel}
use Rattle.dataflow_model.specs.Machine.{Work, handled, received}
use Rattle.job_graph.proofs.PlainTasks.{tasks-graph_of}
use Rattle.job_graph.specs.Expanded.{IsExpanded}
use Rattle.job_graph.specs.PlainGraph.{task_of}
use Rattle.job_graph.specs.declared.role.Role.TheVariants as role
use Rattle.job_state.specs.Held.{Held, record_taken}
use Rattle.job_state.specs.Sending.{items_at}
use Rattle.job_state.specs.declared.holding.Holding.TheVariants as holds
use Rattle.engine_model.specs.AllRules.{AllRules}
use Rattle.engine_model.specs.Calls.{EndsPutOut, PutsOut, FailsToPutOut, IsBlocked, input_at, left_by}
use Rattle.engine_model.specs.Keeps.{Keeps, GateFits}
use Rattle.engine_model.specs.Language.{Language}
use Rattle.engine_model.specs.State.{State}
use Rattle.engine_model.specs.View.{held_state, run_of, job_of}
use Rattle.engine_model.specs.declared.fault.CoreFault.{CoreFault}
use Rattle.engine_model.specs.declared.fault.CoreFault.TheVariants.{NotReady, ChannelBlocked, Memory, Device}
use Rattle.engine_model.proofs.Items.{plain, taken, first_record}
use Rattle.engine_model.proofs.Shape.Gates.{free_not_came, logs_stay}
use Rattle.engine_model.proofs.Moves.{same_logs}
use Rattle.engine_model.proofs.Shape.ShapesKept.{shape_puts_out}
use Rattle.engine_model.proofs.Ledger.Append.{Appended, append_in}
use Rattle.engine_model.proofs.Calls.Goes.{KeepsAndGoes, shape_of, runs_of}
use Rattle.engine_model.proofs.Calls.Steps.{after, Steps, goes_keeps, goes_one, goes_down_once, keeps_still, keeps_down}
use Rattle.engine_model.proofs.Calls.Runs.{runs_moved}
use Rattle.engine_model.proofs.Calls.Tasks.{LeadsTo, input_leads}
use Rattle.engine_model.proofs.Calls.Sinks.{devices_with, changes_sink, sinks_in, appended_subtasks}

-- nothing was sent
pub received_none : {R K S O : Type 0} (meaning : Meaning R K S O) (task : ℕ) (o : Option Channel) → received meaning task [] o ≡ []
received_none meaning task None = refl
received_none meaning task (Some channel) = of (channel.sender == task)
  where
    of : {A : Type 0} (b : Bool) → ◌≡◌ {A = List A} (if b then [] else []) []
    of true = refl
    of false = refl

module _ {R K S O : Type 0} (lang : Language R K S O) (s : State O R K S) (h : Held R K S) (task subtask input channel : ℕ) (at_task : slice_get s.graph.tasks task ≡ Some (role.Sink subtask)) (leads : input_at s.graph task input ≡ Some channel)
    (fits : GateFits s.graph h task) (log_each : length h.logs ≡ length s.graph.channels) (row : R) where
  abbrev before : Running R K S
  before = run_of lang.cmp s.graph h

  abbrev taken_held : Held R K S
  taken_held = record_taken task input channel row h

  -- what the model's attempt comes to
  abbrev pub put_attempt : Attempt R K S
  put_attempt = moved (job_of lang s) (Work task channel) row (handled lang.meaning SinkTask (before.attempt.tasks task) row) before.attempt

  abbrev pub put_run : Running R K S
  put_run = with_attempt put_attempt before

  -- of its output nothing is held
  pub put_held : pruned_run put_run ≡ pruned_run (run_of lang.cmp s.graph taken_held)
  put_held =
      same_run (pruned_run put_run) (pruned_run (run_of lang.cmp s.graph taken_held))
      (same_attempt (pruned_run put_run).attempt (pruned_run (run_of lang.cmp s.graph taken_held)).attempt
      (λ t.
      elim (eqb_tells t task) [
        | inl e ↦ rw e.0 (ap (λ (m : ℕ). without_output (held_state {R = R} lang.cmp (slice_get h.tasks m))) (sym e.1))
        | inr e ↦ rw e.0 refl
      ])
      (λ c.
      ap (λ (l : List R). (if c == channel then drop 1 (plain (items_at h.channels c)) else plain (items_at h.channels c)) ++ map attempt.Record l) (received_none lang.meaning task (slice_get s.graph.channels c))
      ∙ append-nil (if c == channel then drop 1 (plain (items_at h.channels c)) else plain (items_at h.channels c))
      ∙ sym (taken channel h.channels c))
      refl (λ t. refl) (λ t. refl) (λ c. refl)
      (λ c. ap (λ (l : List R). if is_some h.coordination.pending then l else []) (sym (same_logs lang s h h task input channel leads fits log_each row c))))
      refl (λ t. refl)

  module _ (sink : Sinking) (keeps_expanded : IsExpanded s.graph) (free : IsBlocked task input h → ⊥) (head : slice_get (items_at h.channels channel) 0 ≡ Some (Record row)) where
    abbrev to : LeadsTo s.graph task channel
    to = input_leads s.graph task input channel leads

    pub put_steps : (new : Ledger) → Appended (lang.spelling row) subtask sink s.ledger new
        → Steps lang s (devices_with lang s keeps_expanded task subtask at_task s.ledger) (devices_with lang s keeps_expanded task subtask at_task new) before put_run
    put_steps new done =
        MovesPlainly (Work task channel) (record {
          attempt = put_attempt;
          moves = record {
            kind = SinkTask;
            taken = row;
            is_task = tasks-graph_of s.graph s.operators task ∙ ap (option_map (task_of s.operators)) at_task;
            takes = (to.channel, tt, to.is, to.to, first_record (items_at h.channels channel) row head, free_not_came s.graph h task fits input channel leads free);
            ends = refl;
          };
          at_sink = λ e. changes_sink lang s keeps_expanded task subtask at_task (λ a b. Appends (lang.spelling row) a b) s.ledger new done.call done.others;
          elsewhere = λ not_sink. absurd (not_sink refl);
          ends = refl;
        })

module _ {R K S O : Type 0} (rules : AllRules R K S O) (s : State O R K S) (h k : Held R K S) (n task subtask input channel : ℕ) (new : Ledger)
    (keeps : Keeps rules s) (is : s.held ≡ Some h) (at_task : slice_get s.graph.tasks task ≡ Some (role.Sink subtask)) (ordered : IsOrdered new) (leads : input_at s.graph task input ≡ Some channel) where
  appends : (sink : Sinking) (bytes : List ℕ) → slice_get h.tasks task ≡ Some (holds.Sink sink) → new ≡ appended s.ledger sink.open_one bytes → Appended bytes subtask sink s.ledger new
  appends sink bytes was e = append_in s.ledger new subtask sink bytes keeps.ordered ((runs_of rules s keeps h is).sinks task subtask sink at_task was) e

  same_subtasks : (sink : Sinking) (bytes : List ℕ) → slice_get h.tasks task ≡ Some (holds.Sink sink) → new ≡ appended s.ledger sink.open_one bytes → new.subtasks ≡ s.ledger.subtasks
  same_subtasks sink bytes was e =
      let there = (runs_of rules s keeps h is).sinks task subtask sink at_task was in
      ap (λ (l : Ledger). l.subtasks) e ∙ appended_subtasks s.ledger sink.open_one bytes there.opened there.opened_at

  puts_out : PutsOut task input h k channel s.ledger new rules.lang.spelling → KeepsAndGoes rules s (after rules.lang s new (Some k) n)
  puts_out ends =
      let shape = shape_of rules s keeps h is in
      let runs = runs_of rules s keeps h is in
      let bytes = rules.lang.spelling ends.row in
      let done : Appended bytes subtask ends.sink s.ledger new = appends ends.sink bytes ends.was ends.appends in
      let within : task < length s.graph.tasks = slice_get_within s.graph.tasks task (role.Sink subtask) at_task in
      let gate : GateFits s.graph h task = shape.gate_fits task within in
      let after_head : Held R K S = record_taken task input channel ends.row h in
      subst (λ (x : Held R K S). KeepsAndGoes rules s (after rules.lang s new (Some x) n)) (sym ends.ends)
      (goes_keeps rules s keeps new (Some after_head) n (same_subtasks ends.sink bytes ends.was ends.appends) ordered
      (shape_puts_out rules s.graph s.operators h shape task input channel (role.Sink subtask) ends.row at_task leads ends.head)
      (runs_moved rules.lang s h after_head runs new (Some after_head) n keeps.numbered (λ t acked. logs_stay s.graph h task gate input channel leads ends.row t acked) refl refl (λ t sink at. at)
      (sinks_in rules.lang s keeps.expanded task subtask at_task h.tasks s.ledger new ends.sink ends.was done.sink_in done.other_sinks (λ t m sink apart. runs.sinks t m sink)))
      (goes_one rules.lang s h is new after_head n (put_run rules.lang s h task subtask input channel at_task leads gate shape.logs ends.row)
      (put_steps rules.lang s h task subtask input channel at_task leads gate shape.logs ends.row ends.sink keeps.expanded ends.free ends.head new done)
      (put_held rules.lang s h task subtask input channel at_task leads gate shape.logs ends.row)))

  fails_to_put_out : FailsToPutOut task input h k channel s.ledger new rules.lang.spelling → KeepsAndGoes rules s (after rules.lang s new None n)
  fails_to_put_out ends =
      elim ends.either [
        | inl e ↦ subst (λ (l : Ledger). KeepsAndGoes rules s (after rules.lang s l None n)) (sym e) (keeps_down rules s keeps n)
        | inr e ↦
            let bytes = rules.lang.spelling ends.row in
            let done : Appended bytes subtask ends.sink s.ledger new = appends ends.sink bytes ends.was e in
            goes_keeps rules s keeps new None n (same_subtasks ends.sink bytes ends.was e) ordered tt tt
            (goes_down_once rules.lang s new n (Append task bytes) (changes_sink rules.lang s keeps.expanded task subtask at_task (λ a b. Appends bytes a b) s.ledger new done.call done.others))
      ]

  -- nothing changed, of the ledger neither
  pub keeps_still_with : k ≡ h → new ≡ s.ledger → KeepsAndGoes rules s (after rules.lang s new (Some k) n)
  keeps_still_with same e = subst (λ (l : Ledger). KeepsAndGoes rules s (after rules.lang s l (Some k) n)) (sym e) (keeps_still rules s keeps h is k n same)

  pub keeps_put_out : (result : Result Unit CoreFault) → EndsPutOut task input h k channel s.ledger new rules.lang.spelling result
      → KeepsAndGoes rules s (record s { ledger = new; held = left_by result (Some k); faults = n })
  keeps_put_out (Ok u) ends = puts_out ends
  keeps_put_out (Err ChannelBlocked) ends = keeps_still_with ends.1 ends.2
  keeps_put_out (Err NotReady) ends = keeps_still_with ends.2 ends.3
  keeps_put_out (Err Memory) ends = keeps_still_with ends.2 ends.3
  keeps_put_out (Err Device) ends = fails_to_put_out ends
  keeps_put_out (Err other) ends = absurd ends
