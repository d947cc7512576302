-- Each change of what a running job holds keeps its shape, and the barriers in its channels.
use Rattle.std.proofs.Common.{◌≡◌, ◌<◌, All, Option, Some, None, slice_get, length, ℕ, true, false, List, [], ◌∷◌, sym, ap, subst, ◌∙◌}
use Rattle.std.proofs.lemmas.Bool.{true≢false}
use Rattle.std.proofs.lemmas.Option.{same_Some, slice_get_within}
use Rattle.alignment.specs.Table.{effect_of}
use Rattle.alignment.specs.declared.input.Phase.{Phase}
use Rattle.alignment.specs.declared.input.Phase.TheVariants.{AtRest}
use Rattle.channels.specs.declared.item.Item.TheVariants.{Record}
use Rattle.commit_sink.specs.Sink.{Sinking}
use Rattle.coordinator.specs.Coordinator.{IsReady, started, completed}
use Rattle.dataflow_model.specs.Graph.{Meaning, Channel}
use Rattle.dataflow_model.specs.Machine.{received}
use Rattle.job_graph.specs.Expanded.{Expanded, IsExpanded, is_sink}
use Rattle.job_graph.specs.declared.role.Role.{Role}
use Rattle.job_graph.specs.declared.role.Role.TheVariants as role
use Rattle.job_state.specs.Held.{Held, copy_at, came_at, gate_at, record_taken, barrier_taken, Reads, Operates, CopiesSource, CopiesOperator, sink_copied, oldest_forgotten, with_started, with_acknowledged, with_completed}
use Rattle.job_state.specs.Sending.{items_at, without_head}
use Rattle.task_part.specs.declared.part.Part.TheVariants as part
use Rattle.task_part.specs.declared.part.Part.{Part}
use Rattle.engine_model.specs.AllRules.{AllRules, IsGood}
use Rattle.engine_model.specs.Calls.{input_at, IsBarrierNext, is_copy}
use Rattle.engine_model.specs.Keeps.{GateFits, StandsAs, Shape}
use Rattle.engine_model.proofs.Calls.Tasks.{LeadsTo, input_leads}
use Rattle.engine_model.proofs.Shape.Gates.{input_of_channel, copy_is_first, some_copy}
use Rattle.engine_model.proofs.Store.Complete.{ready_acked}
use Rattle.engine_model.proofs.Shape.Shapes.{Frame, frame_of, shape_with}
use Rattle.engine_model.proofs.Shape.ShapeCalls as frames
use Rattle.engine_model.proofs.Shape.BarriersKept.{Barriers, with_records, without_record, barriers_still, barriers_taken, barriers_unsent, barriers_sent, barriers_cleared, none_unpending, none_taken}

module _ {R K S O : Type 0} (rules : AllRules R K S O) (graph : Expanded) (operators : List O) where
  abbrev IsShape : Held R K S → Type 0
  IsShape held = Shape rules graph operators held

  -- a frame, and the barriers
  made : (held : Held R K S) → Frame rules graph operators held → Barriers graph held → IsShape held
  made held frame barriers = shape_with rules graph operators held frame barriers.0 barriers.1

  module _ (old : Held R K S) (shape : IsShape old) where
    abbrev frame : Frame rules graph operators old
    frame = frame_of rules graph operators old shape

    abbrev kept : Barriers graph old
    kept = (shape.barriers, shape.came_after)

    pub shape_reads : (meaning : Meaning R K S O) (task partition offset : ℕ) (row : R) (new : Held R K S) → slice_get graph.tasks task ≡ Some (role.Source partition) → rules.RecordFits row → Reads meaning graph task offset row old new → IsShape new
    shape_reads meaning task partition offset row new is fits reads =
        made new (frames.shape_reads rules graph operators old frame meaning task partition offset row new is fits reads)
        (subst (Barriers graph) (sym reads.ends)
        (barriers_still graph old new.channels kept (with_records (λ n. received meaning task ((0, row) ∷ []) (slice_get graph.channels n)) old.channels new.channels reads.sent)))

    -- a record is taken
    pub shape_puts_out : (task input channel : ℕ) (r : Role) (row : R) → slice_get graph.tasks task ≡ Some r → input_at graph task input ≡ Some channel → slice_get (items_at old.channels channel) 0 ≡ Some (Record row)
        → IsShape (record_taken task input channel row old)
    shape_puts_out task input channel r row is leads head =
        made (record_taken task input channel row old) (frames.shape_puts_out rules graph operators old frame task input channel r row is leads head)
        (barriers_still graph old (without_head channel old.channels) kept (without_record old.channels channel row head))

    pub shape_operates : (meaning : Meaning R K S O) (task number input channel : ℕ) (operator : O) (row : R) (key : Option K) (state : S) (sent : List (ℕ × R)) (new : Held R K S) →
        slice_get graph.tasks task ≡ Some (role.Operator number) → slice_get operators number ≡ Some operator → input_at graph task input ≡ Some channel → slice_get (items_at old.channels channel) 0 ≡ Some (Record row)
        → IsGood rules operator state → All (λ (s : ℕ × R). rules.RecordFits s.1) sent → Operates meaning rules.lang.cmp graph task input channel row key state sent old new → IsShape new
    shape_operates meaning task number input channel operator row key state sent new is op leads head good fits operates =
        made new (frames.shape_operates rules graph operators old frame meaning task number input channel operator row key state sent new is op leads head good fits operates)
        (subst (Barriers graph) (sym operates.ends)
        (barriers_still graph old new.channels kept
        (λ n. with_records (λ m. received meaning task sent (slice_get graph.channels m)) (without_head channel old.channels) new.channels operates.puts n ∙ without_record old.channels channel row head n)))

    -- a task has a place for its copy
    copy_within : (task : ℕ) (r : Role) → slice_get graph.tasks task ≡ Some r → task < length old.copies
    copy_within task r is = subst (λ n. task < n) (sym shape.copies) (slice_get_within graph.tasks task r is)

    pub shape_copies_source : (task partition offset checkpoint : ℕ) (new : Held R K S) → IsExpanded graph → slice_get graph.tasks task ≡ Some (role.Source partition) → old.coordination.pending ≡ Some checkpoint
        → copy_at old task ≡ None → CopiesSource graph task offset checkpoint old new → IsShape new
    shape_copies_source task partition offset checkpoint new expanded is pending none copies =
        made new (frames.shape_copies_source rules graph operators old frame task partition offset checkpoint new expanded is pending copies)
        (subst (Barriers graph) (sym copies.ends)
        (barriers_sent graph old task (part.Source offset) none (copy_within task (role.Source partition) is) checkpoint new.channels pending copies.sent kept))

    -- a barrier is taken from a task's input, which is this channel
    module _ (task input channel checkpoint : ℕ) (leads : input_at graph task input ≡ Some channel) (barrier : IsBarrierNext old channel checkpoint) where
      taken : Barriers graph (barrier_taken task input channel checkpoint old)
      taken =
          let to : LeadsTo graph task channel = input_leads graph task input channel leads in
          barriers_taken graph old channel checkpoint to.channel to.is shape.came barrier kept

      first : (r : Role) → slice_get graph.tasks task ≡ Some r → is_copy (effect_of (gate_at old task) input) ≡ true → copy_at old task ≡ None
      first r is copy = copy_is_first graph old task (shape.gate_fits task (slice_get_within graph.tasks task r is)) input channel leads checkpoint barrier.1 barrier.2 copy

    pub shape_barrier_taken : (task input channel checkpoint : ℕ) (r : Role) → slice_get graph.tasks task ≡ Some r → input_at graph task input ≡ Some channel → IsBarrierNext old channel checkpoint
        → is_copy (effect_of (gate_at old task) input) ≡ false → IsShape (barrier_taken task input channel checkpoint old)
    shape_barrier_taken task input channel checkpoint r is leads barrier no_copy =
        made (barrier_taken task input channel checkpoint old) (frames.shape_barrier_taken rules graph operators old frame task input channel checkpoint r is leads barrier no_copy)
        (taken task input channel checkpoint leads barrier)

    pub shape_copies_operator : (task number input channel checkpoint : ℕ) (new : Held R K S) → slice_get graph.tasks task ≡ Some (role.Operator number) → input_at graph task input ≡ Some channel → IsBarrierNext old channel checkpoint
        → is_copy (effect_of (gate_at old task) input) ≡ true → CopiesOperator graph task input channel checkpoint old new → IsShape new
    shape_copies_operator task number input channel checkpoint new is leads barrier copy copies =
        made new (frames.shape_copies_operator rules graph operators old frame task number input channel checkpoint new is leads barrier copy copies)
        (subst (Barriers graph) (sym copies.ends)
        (barriers_sent graph (barrier_taken task input channel checkpoint old) task (part.Operator copies.entries []) (first task input channel checkpoint leads barrier (role.Operator number) is copy)
        (copy_within task (role.Operator number) is) checkpoint new.channels barrier.1 copies.sent (taken task input channel checkpoint leads barrier)))

    pub shape_sink_copied : (task subtask input channel checkpoint : ℕ) (names : List ℕ) (sink : Sinking) → IsExpanded graph → slice_get graph.tasks task ≡ Some (role.Sink subtask) → input_at graph task input ≡ Some channel
        → IsBarrierNext old channel checkpoint → is_copy (effect_of (gate_at old task) input) ≡ true → IsShape (sink_copied task input channel checkpoint names sink old)
    shape_sink_copied task subtask input channel checkpoint names sink expanded is leads barrier copy =
        made (sink_copied task input channel checkpoint names sink old) (frames.shape_sink_copied rules graph operators old frame task subtask input channel checkpoint names sink is leads barrier copy)
        (barriers_unsent graph (barrier_taken task input channel checkpoint old) task (part.Sink names []) (first task input channel checkpoint leads barrier (role.Sink subtask) is copy) (copy_within task (role.Sink subtask) is) silent
        (taken task input channel checkpoint leads barrier))
      where
        -- a sink sends into no channel
        silent : (n : ℕ) (c : Channel) → slice_get graph.channels n ≡ Some c → c.sender ≡ task → ⊥
        silent n c at same =
            let sender = (expanded.joined n c at).sender in
            let one : sender.role ≡ role.Sink subtask = same_Some sender.role (role.Sink subtask) (sym sender.is ∙ ap (slice_get graph.tasks) same ∙ is) in
            true≢false (ap is_sink (sym one) ∙ sender.sends)

    pub shape_forgotten : (task subtask : ℕ) (sink : Sinking) → slice_get graph.tasks task ≡ Some (role.Sink subtask) → IsShape (oldest_forgotten task sink old)
    shape_forgotten task subtask sink is = made (oldest_forgotten task sink old) (frames.shape_forgotten rules graph operators old frame task subtask sink is) kept

    pub shape_started : (checkpoint : ℕ) → old.coordination.pending ≡ None → IsShape (with_started checkpoint old)
    shape_started checkpoint none =
        made (with_started checkpoint old) (frames.shape_started rules graph operators old frame checkpoint none)
        (barriers_cleared graph old (started old.coordination checkpoint) (none_unpending graph old none kept))

    -- each task's barriers were all taken
    pub shape_completed : (checkpoint : ℕ) → IsExpanded graph → IsReady old.coordination → IsShape (with_completed checkpoint old)
    shape_completed checkpoint expanded ready =
        made (with_completed checkpoint old) (frames.shape_completed rules graph operators old frame checkpoint ready)
        (barriers_cleared graph old (completed old.coordination checkpoint) (λ n c at. none_taken graph old kept n c at (came n c at)))
      where
        came : (n : ℕ) (c : Channel) → slice_get graph.channels n ≡ Some c → came_at old n ≡ true
        came n c at =
            let receiver = (expanded.joined n c at).receiver in
            let within : c.receiver < length graph.tasks = slice_get_within graph.tasks c.receiver receiver.role receiver.is in
            let gate : GateFits graph old c.receiver = shape.gate_fits c.receiver within in
            let done = gate.acknowledged (ready_acked old.coordination ready c.receiver (subst (λ m. c.receiver < m) (sym shape.acked) within)) in
            let input = input_of_channel graph n c at in
            subst (λ (q : Phase). StandsAs graph old c.receiver q (gate_at old c.receiver).inputs) done.1 gate.stands input.0 n input.1 ∙ some_copy (copy_at old c.receiver) done.0

    pub shape_acknowledged : (task : ℕ) (p : Part R K S) → copy_at old task ≡ Some p → (gate_at old task).phase ≡ AtRest → IsShape (with_acknowledged task old)
    shape_acknowledged task p copied rest = made (with_acknowledged task old) (frames.shape_acknowledged rules graph operators old frame task p copied rest) kept
