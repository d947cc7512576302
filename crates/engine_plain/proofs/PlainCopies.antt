-- Barriers and copies leave the plain configuration as it is.
use Rattle.std.proofs.Common.{◌≡◌, ◌<◌, ◌+◌, inl, inr, Some, Result, Ok, Err, slice_get, length, ℕ, false, refl, sym, ap, ◌∙◌}
use Rattle.std.proofs.lemmas.Option.{slice_get_within}
use Rattle.alignment.specs.declared.input.Effect.{Effect}
use Rattle.checkpoint_model.specs.Attempt.{Attempt, bare}
use Rattle.checkpoint_model.specs.Durable.{is_on}
use Rattle.checkpoint_model.specs.PrunedLaws.{all_records}
use Rattle.checkpoint_model.proofs.Barriers.{others_leave}
use Rattle.checkpoint_model.proofs.PrunedSinks.{begun_records, pre_committed_records}
use Rattle.commit_sink.specs.Ledger.{Ledger, begun}
use Rattle.commit_sink.specs.Sink.{Sinking, names_with_open, pre_committed_last}
use Rattle.job_graph.specs.declared.role.Role.{Role}
use Rattle.job_graph.specs.declared.role.Role.TheVariants as role
use Rattle.job_state.specs.Held.{Held, barrier_taken}
use Rattle.engine_model.specs.AllRules.{AllRules}
use Rattle.engine_model.specs.Calls.{EndsInject, EndsOperatorBarrier, EndsSinkBarrier, NotesBarrier, CopiesMap, CopiesSink, IsBarrierNext, input_at, is_copy, left_by}
use Rattle.engine_model.specs.Keeps.{Keeps, GateFits, Shape}
use Rattle.engine_model.specs.State.{State}
use Rattle.engine_model.specs.View.{attempt_of, job_of, is_logged_in}
use Rattle.engine_model.specs.declared.fault.CoreFault.{CoreFault}
use Rattle.engine_model.specs.declared.fault.CoreFault.TheVariants.{NoSuchTask, NoCheckpoint, NotReady, ChannelBlocked, Memory, Device}
use Rattle.engine_model.proofs.Calls.Goes.{runs_of, shape_of}
use Rattle.engine_model.proofs.Calls.Injects.{copy_within}
use Rattle.engine_model.proofs.Copies.{source_copies, takes_barrier, operator_copies, sink_copies}
use Rattle.engine_model.proofs.Ledger.Copy.{Copied, copy_in}
use Rattle.engine_model.proofs.Ledger.Shares.{share}
use Rattle.engine_model.proofs.Store.Put.{pending_incomplete}
use Rattle.engine_model.proofs.Store.Runs.{runs_pending}
use Rattle.engine_model.proofs.Store.View.{line_of, is_on-line_of}
use Rattle.engine_plain.specs.Plain.{Stays}
use Rattle.engine_plain.proofs.Stands.{SameRecords, same_ledger, same_records, stays_by, stays_refused}

module _ {R K S O : Type 0} (rules : AllRules R K S O) (s : State O R K S) (h k : Held R K S) (n task : ℕ) (keeps : Keeps rules s) (was : s.held ≡ Some h) where
  abbrev old : Attempt R K S
  old = attempt_of rules.lang.cmp h

  abbrev now : Attempt R K S
  now = attempt_of rules.lang.cmp k

  -- ---- a source

  pub plain_inject : (result : Result Unit CoreFault) → EndsInject s.graph task h k result → Stays rules.lang s (record s { held = left_by result (Some k); faults = n })
  plain_inject (Ok u) ends =
      let within = copy_within rules s h k n task keeps was (role.Source ends.2.0) ends.2.1 in
      stays_by rules.lang s h was k s.stored s.ledger n
      ((others_leave (job_of rules.lang s) (is_logged_in s) old now).copy task (source_copies rules.lang s h k task ends.2.0 ends.1 ends.0 keeps.expanded ends.2.1 ends.5 ends.3 ends.4 within ends.6))
      (same_ledger rules.lang s s.ledger refl)
  plain_inject (Err NoSuchTask) ends = stays_refused rules.lang s h was k s.stored s.ledger n ends.1 refl
  plain_inject (Err NoCheckpoint) ends = stays_refused rules.lang s h was k s.stored s.ledger n ends.2 refl
  plain_inject (Err NotReady) ends = stays_refused rules.lang s h was k s.stored s.ledger n ends.3 refl
  plain_inject (Err Memory) ends = stays_refused rules.lang s h was k s.stored s.ledger n ends.3 refl
  plain_inject (Err other) ends = absurd ends

  -- ---- a task that takes a barrier

  module _ (input channel : ℕ) (r : Role) (at_task : slice_get s.graph.tasks task ≡ Some r) (leads : input_at s.graph task input ≡ Some channel) where
    shape : Shape rules s.graph s.operators h
    shape = shape_of rules s keeps h was

    gate : GateFits s.graph h task
    gate = shape.gate_fits task (slice_get_within s.graph.tasks task r at_task)

    within : task < length h.copies
    within = copy_within rules s h k n task keeps was r at_task

    module _ (checkpoint : ℕ) (barrier : IsBarrierNext h channel checkpoint) where
      abbrev between : Attempt R K S
      between = attempt_of rules.lang.cmp (barrier_taken task input channel checkpoint h)

      barrier_leaves : bare between ≡ bare old
      barrier_leaves = (others_leave (job_of rules.lang s) (is_logged_in s) old between).barrier channel (takes_barrier rules.lang s h k task input channel checkpoint leads gate shape.came barrier)

    -- the task takes the barrier, and does no more
    notes_leave : (effect : Effect) → NotesBarrier task input h k channel effect → bare now ≡ bare old
    notes_leave effect ends = ap (λ (x : Held R K S). bare (attempt_of rules.lang.cmp x)) ends.ends ∙ barrier_leaves ends.checkpoint ends.barrier

    -- an operator copies its map
    map_leaves : (effect : Effect) → CopiesMap s.graph task h k input channel effect → bare now ≡ bare old
    map_leaves effect ends =
        (others_leave (job_of rules.lang s) (is_logged_in s) (between ends.checkpoint ends.barrier) now).copy task
        (operator_copies rules.lang s h k task input channel ends.checkpoint leads gate shape.came ends.barrier within (ap is_copy (sym ends.brings) ∙ ends.copies) ends.copied)
        ∙ barrier_leaves ends.checkpoint ends.barrier

    pub plain_operator_barrier : (result : Result Effect CoreFault) → EndsOperatorBarrier s.graph task h k input channel result → Stays rules.lang s (record s { held = left_by result (Some k); faults = n })
    plain_operator_barrier (Ok effect) (inl ends) = stays_by rules.lang s h was k s.stored s.ledger n (notes_leave effect ends) (same_ledger rules.lang s s.ledger refl)
    plain_operator_barrier (Ok effect) (inr ends) = stays_by rules.lang s h was k s.stored s.ledger n (map_leaves effect ends) (same_ledger rules.lang s s.ledger refl)
    plain_operator_barrier (Err ChannelBlocked) ends = stays_refused rules.lang s h was k s.stored s.ledger n ends.1 refl
    plain_operator_barrier (Err NotReady) ends = stays_refused rules.lang s h was k s.stored s.ledger n ends.2 refl
    plain_operator_barrier (Err Memory) ends = stays_refused rules.lang s h was k s.stored s.ledger n ends.2 refl
    plain_operator_barrier (Err other) ends = absurd ends

  -- ---- a sink

  module _ (input channel subtask : ℕ) (ledger : Ledger) (at_task : slice_get s.graph.tasks task ≡ Some (role.Sink subtask)) (leads : input_at s.graph task input ≡ Some channel) where
    module _ (effect : Effect) (ends : CopiesSink task input h k channel subtask s.ledger ledger effect) where
      not_complete : is_on (line_of s.stored) ends.checkpoint ≡ false
      not_complete =
          is_on-line_of s.stored ends.checkpoint keeps.numbered
          ∙ pending_incomplete rules.lang s.graph s.stored h ends.checkpoint (runs_pending rules.lang s h (runs_of rules s keeps h was) ends.checkpoint ends.barrier.1)

      copied : Copied (line_of s.stored) ends.checkpoint subtask ends.sink s.ledger (begun s.ledger subtask) ledger
      copied =
          copy_in s.ledger (begun s.ledger subtask) ledger subtask ends.sink ends.checkpoint (line_of s.stored) keeps.ordered
          ((runs_of rules s keeps h was).sinks task subtask ends.sink at_task ends.was) not_complete refl ends.transactions

      -- the open transaction comes to be the last of the pre-committed, and the new one is empty
      records_stay : all_records (share ledger subtask) ≡ all_records (share s.ledger subtask)
      records_stay =
          let middle = share (begun s.ledger subtask) subtask in
          pre_committed_records (line_of s.stored) ends.checkpoint middle (share ledger subtask) copied.call copied.is_first
          ∙ ap all_records copied.began ∙ begun_records (length s.ledger.transactions + 1) (share s.ledger subtask)

      sinks_stay : SameRecords rules.lang s ledger
      sinks_stay = same_records rules.lang s keeps.expanded task subtask at_task ledger records_stay (λ other apart. copied.others other apart ∙ copied.others_began other apart)

      sink_leaves : bare now ≡ bare old
      sink_leaves =
          let r = role.Sink subtask in
          let sink_now : Sinking = record (pre_committed_last ends.sink ends.checkpoint) { open_one = length s.ledger.transactions + 1 } in
          (others_leave (job_of rules.lang s) (is_logged_in s) (between input channel r at_task leads ends.checkpoint ends.barrier) now).copy task
          (sink_copies rules.lang s h k task input channel ends.checkpoint leads (gate input channel r at_task leads) (shape input channel r at_task leads).came ends.barrier (within input channel r at_task leads) (ap is_copy (sym ends.brings) ∙ ends.copies) keeps.expanded subtask (names_with_open ends.sink) ends.sink sink_now at_task ends.was ends.ends)
          ∙ barrier_leaves input channel r at_task leads ends.checkpoint ends.barrier

    pub plain_sink_barrier : (result : Result Effect CoreFault) → EndsSinkBarrier task input h k channel subtask s.ledger ledger result → Stays rules.lang s (record s { held = left_by result (Some k); ledger = ledger; faults = n })
    plain_sink_barrier (Ok effect) (inl ends) = stays_by rules.lang s h was k s.stored ledger n (notes_leave input channel (role.Sink subtask) at_task leads effect ends.0) (same_ledger rules.lang s ledger ends.1)
    plain_sink_barrier (Ok effect) (inr ends) = stays_by rules.lang s h was k s.stored ledger n (sink_leaves effect ends) (sinks_stay effect ends)
    plain_sink_barrier (Err ChannelBlocked) ends = stays_refused rules.lang s h was k s.stored ledger n ends.1 ends.2
    plain_sink_barrier (Err NotReady) ends = stays_refused rules.lang s h was k s.stored ledger n ends.2 ends.3
    plain_sink_barrier (Err Memory) ends = stays_refused rules.lang s h was k s.stored ledger n ends.2 ends.3
    plain_sink_barrier (Err Device) ends = λ at stands. tt
    plain_sink_barrier (Err other) ends = absurd ends
