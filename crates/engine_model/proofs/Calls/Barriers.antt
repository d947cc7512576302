-- A task takes the barrier; an operator that copies at it copies its map, and sends the barrier.
use Rattle.std.proofs.Common.{◌≡◌, inl, inr, Some, Result, Ok, Err, slice_get, ℕ, true, [], refl, sym, ap, subst, ◌∙◌}
use Rattle.std.proofs.lemmas.Option.{slice_get_within}
use Rattle.alignment.specs.Table.{effect_of}
use Rattle.alignment.specs.declared.input.Effect.{Effect}
use Rattle.job_graph.specs.declared.role.Role.{Role}
use Rattle.job_graph.specs.declared.role.Role.TheVariants as role
use Rattle.job_state.specs.Held.{Held, gate_at, barrier_taken}
use Rattle.task_part.specs.declared.part.Part.TheVariants as part
use Rattle.engine_model.specs.AllRules.{AllRules}
use Rattle.engine_model.specs.Calls.{EndsOperatorBarrier, NotesBarrier, CopiesMap, input_at, is_copy, left_by}
use Rattle.engine_model.specs.Keeps.{Keeps, GateFits}
use Rattle.engine_model.specs.State.{State}
use Rattle.engine_model.specs.declared.fault.CoreFault.{CoreFault}
use Rattle.engine_model.specs.declared.fault.CoreFault.TheVariants.{NotReady, ChannelBlocked, Memory}
use Rattle.engine_model.proofs.Shape.Gates.{copy_is_first}
use Rattle.engine_model.proofs.Runs.{between, barrier_runs, operator_copy_runs}
use Rattle.engine_model.proofs.Shape.ShapesKept.{shape_barrier_taken, shape_copies_operator}
use Rattle.engine_model.proofs.Calls.Goes.{KeepsAndGoes, shape_of, runs_of}
use Rattle.engine_model.proofs.Calls.Steps.{after, goes_keeps, goes_one, goes_two, keeps_still}
use Rattle.engine_model.proofs.Calls.Runs.{logs_same, runs_moved, runs_copied}
use Rattle.engine_model.proofs.Calls.Injects.{copy_within}

-- a task's input, which is this channel
module _ {R K S O : Type 0} (rules : AllRules R K S O) (s : State O R K S) (h k : Held R K S) (n task input channel : ℕ) (r : Role)
    (keeps : Keeps rules s) (is : s.held ≡ Some h) (at_task : slice_get s.graph.tasks task ≡ Some r) (leads : input_at s.graph task input ≡ Some channel) where
  -- the task takes the barrier, and does no more
  pub notes_barrier : (effect : Effect) → NotesBarrier task input h k channel effect → KeepsAndGoes rules s (after rules.lang s s.ledger (Some k) n)
  notes_barrier effect ends =
      let shape = shape_of rules s keeps h is in
      let runs = runs_of rules s keeps h is in
      let gate : GateFits s.graph h task = shape.gate_fits task (slice_get_within s.graph.tasks task r at_task) in
      let taken : Held R K S = barrier_taken task input channel ends.checkpoint h in
      subst (λ (x : Held R K S). KeepsAndGoes rules s (after rules.lang s s.ledger (Some x) n)) (sym ends.ends)
      (goes_keeps rules s keeps s.ledger (Some taken) n refl keeps.ordered
      (shape_barrier_taken rules s.graph s.operators h shape task input channel ends.checkpoint r at_task leads ends.barrier (ap is_copy (sym ends.brings) ∙ ends.no_copy))
      (runs_moved rules.lang s h taken runs s.ledger (Some taken) n keeps.numbered (logs_same rules.lang s h taken runs s.ledger (Some taken) n refl) refl refl (λ t sink at. at) runs.sinks)
      (goes_one rules.lang s h is s.ledger taken n (between rules.lang s h taken task input channel ends.checkpoint leads gate shape.came ends.barrier)
      (barrier_runs rules.lang s h taken task input channel ends.checkpoint leads gate shape.came ends.barrier) refl))

module _ {R K S O : Type 0} (rules : AllRules R K S O) (s : State O R K S) (h k : Held R K S) (n task number input channel : ℕ) (operator : O)
    (keeps : Keeps rules s) (is : s.held ≡ Some h) (at_task : slice_get s.graph.tasks task ≡ Some (role.Operator number)) (op : slice_get s.operators number ≡ Some operator) (leads : input_at s.graph task input ≡ Some channel) where
  copies_map : (effect : Effect) → CopiesMap s.graph task h k input channel effect → KeepsAndGoes rules s (after rules.lang s s.ledger (Some k) n)
  copies_map effect ends =
      let shape = shape_of rules s keeps h is in
      let runs = runs_of rules s keeps h is in
      let within = copy_within rules s h k n task keeps is (role.Operator number) at_task in
      let gate : GateFits s.graph h task = shape.gate_fits task (slice_get_within s.graph.tasks task (role.Operator number) at_task) in
      let copying : is_copy (effect_of (gate_at h task) input) ≡ true = ap is_copy (sym ends.brings) ∙ ends.copies in
      let copies = ends.copied in
      goes_keeps rules s keeps s.ledger (Some k) n refl keeps.ordered
      (shape_copies_operator rules s.graph s.operators h shape task number input channel ends.checkpoint k at_task leads ends.barrier copying copies)
      (runs_copied rules.lang s h k runs s.ledger (Some k) n task (part.Operator copies.entries []) within (copy_is_first s.graph h task gate input channel leads ends.checkpoint ends.barrier.1 ends.barrier.2 copying)
      (ap (λ (x : Held R K S). x.copies) copies.ends) (ap (λ (x : Held R K S). x.coordination) copies.ends) (ap (λ (x : Held R K S). x.logs) copies.ends)
      (λ t sink at. ap (λ (x : Held R K S). slice_get x.tasks t) (sym copies.ends) ∙ at) runs.sinks)
      (goes_two rules.lang s h is s.ledger k n (between rules.lang s h k task input channel ends.checkpoint leads gate shape.came ends.barrier) refl
      (barrier_runs rules.lang s h k task input channel ends.checkpoint leads gate shape.came ends.barrier)
      (operator_copy_runs rules.lang s h k task input channel ends.checkpoint leads gate shape.came ends.barrier number operator at_task op within copying copies))

  pub keeps_operator_barrier : (result : Result Effect CoreFault) → EndsOperatorBarrier s.graph task h k input channel result
      → KeepsAndGoes rules s (record s { held = left_by result (Some k); faults = n })
  keeps_operator_barrier (Ok effect) ends =
      elim ends [
        | inl noted ↦ notes_barrier rules s h k n task input channel (role.Operator number) keeps is at_task leads effect noted
        | inr copied ↦ copies_map effect copied
      ]
  keeps_operator_barrier (Err ChannelBlocked) ends = keeps_still rules s keeps h is k n ends.1
  keeps_operator_barrier (Err NotReady) ends = keeps_still rules s keeps h is k n ends.2
  keeps_operator_barrier (Err Memory) ends = keeps_still rules s keeps h is k n ends.2
  keeps_operator_barrier (Err other) ends = absurd ends
