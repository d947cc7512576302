-- An operator that works its first record makes one plain step, and so does a sink.
use Rattle.std.proofs.Common.{◌≡◌, Option, Some, Result, Ok, Err, slice_get, ℕ, refl, sym, ap, subst, ◌∙◌}
use Rattle.std.specs.Option.{option_map}
use Rattle.std.proofs.lemmas.Option.{same_Some, slice_get_within}
use Rattle.checkpoint_model.specs.Attempt.{bare}
use Rattle.checkpoint_model.specs.Durable.{IsSink, Appends}
use Rattle.checkpoint_model.specs.Engine.{Running}
use Rattle.checkpoint_model.specs.EngineLaws.{EngineMoves, with_attempt}
use Rattle.checkpoint_model.specs.Pruned.{pruned_run}
use Rattle.checkpoint_model.specs.PrunedLaws.{HasOneOpen}
use Rattle.commit_sink.specs.Ledger.{Ledger}
use Rattle.dataflow_model.specs.Graph.{Task, OperatorTask, SinkTask}
use Rattle.dataflow_model.specs.Machine.{Work}
use Rattle.job_graph.specs.PlainGraph.{task_of, operator_task}
use Rattle.job_graph.specs.declared.role.Role.{Role}
use Rattle.job_graph.specs.declared.role.Role.TheVariants as role
use Rattle.job_graph.proofs.PlainTasks.{tasks-graph_of}
use Rattle.job_state.specs.Held.{Held}
use Rattle.job_state.specs.Sending.{items_at}
use Rattle.engine_model.specs.AllRules.{AllRules}
use Rattle.engine_model.specs.Calls.{EndsOperate, OperatesNext, EndsPutOut, PutsOut, input_at, left_by}
use Rattle.engine_model.specs.Keeps.{Keeps, SinkIn, GateFits, Shape}
use Rattle.engine_model.specs.State.{State}
use Rattle.engine_model.specs.View.{attempt_of, run_of, transactions_at, job_of, devices_of}
use Rattle.engine_model.specs.declared.fault.CoreFault.{CoreFault}
use Rattle.engine_model.specs.declared.fault.CoreFault.TheVariants.{NotReady, ChannelBlocked, Memory, Device}
use Rattle.engine_model.proofs.Items.{first_record}
use Rattle.engine_model.proofs.Moves.{operates_move}
use Rattle.engine_model.proofs.Shape.Gates.{free_not_came}
use Rattle.engine_model.proofs.Calls.Goes.{after, runs_of, shape_of}
use Rattle.engine_model.proofs.Calls.PutsOut.{put_attempt, put_run, put_held}
use Rattle.engine_model.proofs.Calls.Sinks.{changes_sink}
use Rattle.engine_model.proofs.Calls.Tasks.{LeadsTo, input_leads}
use Rattle.engine_model.proofs.Ledger.Append.{Appended, append_in}
use Rattle.engine_plain.specs.Plain.{StepsBy, StepsIfOk}
use Rattle.engine_plain.proofs.Stands.{steps_by, stays_refused}

operator_is_none : {O : Type 0} (op : O) → ◌≡◌ {A = Task O} (OperatorTask op) SinkTask → ⊥
operator_is_none op e = cc

-- ---- an operator

module _ {R K S O : Type 0} (rules : AllRules R K S O) (s : State O R K S) (h k : Held R K S) (n task number input channel : ℕ) (operator : O)
    (keeps : Keeps rules s) (was : s.held ≡ Some h) (at_task : slice_get s.graph.tasks task ≡ Some (role.Operator number)) (op : slice_get s.operators number ≡ Some operator) (leads : input_at s.graph task input ≡ Some channel) where
  shape : Shape rules s.graph s.operators h
  shape = shape_of rules s keeps h was

  operate_moves : OperatesNext s.graph task h k input channel rules.lang operator →
      EngineMoves (job_of rules.lang s) rules.lang.spelling (Work task channel) (devices_of rules.lang s) (devices_of rules.lang (record s { held = Some k; faults = n })) (run_of rules.lang.cmp s.graph h) (with_attempt (attempt_of rules.lang.cmp k) (run_of rules.lang.cmp s.graph h))
  unfolding operates_move
  operate_moves ends = record {
    attempt = attempt_of rules.lang.cmp k;
    moves = operates_move rules.lang s h k task number input channel operator ends.row ends.entries at_task op leads (shape.gate_fits task (slice_get_within s.graph.tasks task (role.Operator number) at_task)) shape.logs ends.free ends.head ends.was ends.operates;
    at_sink = λ e. absurd (operator_is_none operator e);
    elsewhere = λ not_sink. refl;
    ends = refl;
  }

  -- an operator is no sink
  no_sink : IsSink (job_of rules.lang s) task → ⊥
  no_sink sink =
      let is = tasks-graph_of s.graph s.operators task ∙ ap (option_map (task_of s.operators)) at_task ∙ ap (λ (o : Option O). Some (operator_task o)) op in
      operator_is_none operator (same_Some (OperatorTask operator) SinkTask (sym is ∙ sink))

  pub plain_operate : (result : Result Unit CoreFault) → EndsOperate s.graph task h k input channel rules.lang operator result → StepsIfOk result rules.lang (Work task channel) s (record s { held = left_by result (Some k); faults = n })
  plain_operate (Ok u) ends =
      steps_by rules.lang s h was k s.stored s.ledger n (Work task channel) (with_attempt (attempt_of rules.lang.cmp k) (run_of rules.lang.cmp s.graph h))
      (operate_moves ends) (λ sink. absurd (no_sink sink)) refl
  plain_operate (Err ChannelBlocked) ends = stays_refused rules.lang s h was k s.stored s.ledger n ends.1 refl
  plain_operate (Err NotReady) ends = stays_refused rules.lang s h was k s.stored s.ledger n ends.2 refl
  plain_operate (Err Memory) ends = stays_refused rules.lang s h was k s.stored s.ledger n ends.2 refl
  plain_operate (Err other) ends = absurd ends

-- ---- a sink

module _ {R K S O : Type 0} (rules : AllRules R K S O) (s : State O R K S) (h k : Held R K S) (n task subtask input channel : ℕ) (ledger : Ledger)
    (keeps : Keeps rules s) (was : s.held ≡ Some h) (at_task : slice_get s.graph.tasks task ≡ Some (role.Sink subtask)) (leads : input_at s.graph task input ≡ Some channel) where
  module _ (ends : PutsOut task input h k channel s.ledger ledger rules.lang.spelling) where
    whole : Shape rules s.graph s.operators h
    whole = shape_of rules s keeps h was

    gate : GateFits s.graph h task
    gate = whole.gate_fits task (slice_get_within s.graph.tasks task (role.Sink subtask) at_task)

    abbrev to : LeadsTo s.graph task channel
    to = input_leads s.graph task input channel leads

    sink_in : SinkIn s.ledger subtask ends.sink
    sink_in = (runs_of rules s keeps h was).sinks task subtask ends.sink at_task ends.was

    done : Appended (rules.lang.spelling ends.row) subtask ends.sink s.ledger ledger
    done = append_in s.ledger ledger subtask ends.sink (rules.lang.spelling ends.row) keeps.ordered sink_in ends.appends

    abbrev next : Running R K S
    next = put_run rules.lang s h task subtask input channel at_task leads gate whole.logs ends.row

    put_moves : EngineMoves (job_of rules.lang s) rules.lang.spelling (Work task channel) (devices_of rules.lang s) (devices_of rules.lang (after s (Some k) s.stored ledger n)) (run_of rules.lang.cmp s.graph h) next
    put_moves = record {
      attempt = put_attempt rules.lang s h task subtask input channel at_task leads gate whole.logs ends.row;
      moves = record {
        kind = SinkTask;
        taken = ends.row;
        is_task = tasks-graph_of s.graph s.operators task ∙ ap (option_map (task_of s.operators)) at_task;
        takes = (to.channel, tt, to.is, to.to, first_record (items_at h.channels channel) ends.row ends.head, free_not_came s.graph h task gate input channel leads ends.free);
        ends = refl;
      };
      at_sink = λ e. changes_sink rules.lang s keeps.expanded task subtask at_task (λ a b. Appends (rules.lang.spelling ends.row) a b) s.ledger ledger done.call done.others;
      elsewhere = λ not_sink. absurd (not_sink refl);
      ends = refl;
    }

    same_held : bare (pruned_run next).attempt ≡ bare (pruned_run (run_of rules.lang.cmp s.graph k)).attempt
    same_held =
        ap (λ (run : Running R K S). bare run.attempt) (put_held rules.lang s h task subtask input channel at_task leads gate whole.logs ends.row)
        ∙ ap (λ (x : Held R K S). bare (pruned_run (run_of rules.lang.cmp s.graph x)).attempt) (sym ends.ends)

    puts_out : StepsBy rules.lang (Work task channel) s (after s (Some k) s.stored ledger n)
    puts_out =
        steps_by rules.lang s h was k s.stored ledger n (Work task channel) next put_moves
        (λ sink. subst (λ (r : Option Role). HasOneOpen (transactions_at s.ledger r)) (sym at_task) sink_in.only_one) same_held

  pub plain_put_out : (result : Result Unit CoreFault) → EndsPutOut task input h k channel s.ledger ledger rules.lang.spelling result → StepsIfOk result rules.lang (Work task channel) s (record s { held = left_by result (Some k); ledger = ledger; faults = n })
  plain_put_out (Ok u) ends = puts_out ends
  plain_put_out (Err ChannelBlocked) ends = stays_refused rules.lang s h was k s.stored ledger n ends.1 ends.2
  plain_put_out (Err NotReady) ends = stays_refused rules.lang s h was k s.stored ledger n ends.2 ends.3
  plain_put_out (Err Memory) ends = stays_refused rules.lang s h was k s.stored ledger n ends.2 ends.3
  plain_put_out (Err Device) ends = λ at stands. tt
  plain_put_out (Err other) ends = absurd ends
