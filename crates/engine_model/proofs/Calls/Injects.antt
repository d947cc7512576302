-- A source copies its offset and sends the barrier.
use Rattle.std.proofs.Common.{◌≡◌, ◌<◌, Some, None, Result, Ok, Err, slice_get, length, ℕ, refl, sym, ap, subst, ◌∙◌}
use Rattle.std.proofs.lemmas.Option.{slice_get_within}
use Rattle.job_graph.specs.declared.role.Role.{Role}
use Rattle.job_graph.specs.declared.role.Role.TheVariants as role
use Rattle.job_state.specs.Held.{Held, copy_at, CopiesSource}
use Rattle.job_state.specs.declared.holding.Holding.TheVariants as holds
use Rattle.task_part.specs.declared.part.Part.TheVariants as part
use Rattle.engine_model.specs.AllRules.{AllRules}
use Rattle.engine_model.specs.Calls.{EndsInject, left_by}
use Rattle.engine_model.specs.Keeps.{Keeps}
use Rattle.engine_model.specs.State.{State}
use Rattle.engine_model.specs.View.{run_of}
use Rattle.engine_model.specs.declared.fault.CoreFault.{CoreFault}
use Rattle.engine_model.specs.declared.fault.CoreFault.TheVariants.{NoSuchTask, NoCheckpoint, NotReady, Memory}
use Rattle.engine_model.proofs.Runs.{inject_runs}
use Rattle.engine_model.proofs.Shape.ShapesKept.{shape_copies_source}
use Rattle.engine_model.proofs.Calls.Goes.{KeepsAndGoes, shape_of, runs_of}
use Rattle.engine_model.proofs.Calls.Steps.{after, goes_keeps, goes_one, keeps_still}
use Rattle.engine_model.proofs.Calls.Runs.{runs_copied}

module _ {R K S O : Type 0} (rules : AllRules R K S O) (s : State O R K S) (h k : Held R K S) (n task : ℕ) (keeps : Keeps rules s) (is : s.held ≡ Some h) where
  -- a task has a place for its copy
  pub copy_within : (r : Role) → slice_get s.graph.tasks task ≡ Some r → task < length h.copies
  copy_within r at = subst (λ m. task < m) (sym (shape_of rules s keeps h is).copies) (slice_get_within s.graph.tasks task r at)

  injects : (partition offset checkpoint : ℕ) → slice_get s.graph.tasks task ≡ Some (role.Source partition) → h.coordination.pending ≡ Some checkpoint → copy_at h task ≡ None → slice_get h.tasks task ≡ Some (holds.Source offset)
      → CopiesSource s.graph task offset checkpoint h k → KeepsAndGoes rules s (after rules.lang s s.ledger (Some k) n)
  injects partition offset checkpoint at_task pending none was copies =
      let shape = shape_of rules s keeps h is in
      let runs = runs_of rules s keeps h is in
      let within = copy_within (role.Source partition) at_task in
      goes_keeps rules s keeps s.ledger (Some k) n refl keeps.ordered
      (shape_copies_source rules s.graph s.operators h shape task partition offset checkpoint k keeps.expanded at_task pending none copies)
      (runs_copied rules.lang s h k runs s.ledger (Some k) n task (part.Source offset) within none (ap (λ (x : Held R K S). x.copies) copies.ends) (ap (λ (x : Held R K S). x.coordination) copies.ends) (ap (λ (x : Held R K S). x.logs) copies.ends)
      (λ t sink at. ap (λ (x : Held R K S). slice_get x.tasks t) (sym copies.ends) ∙ at) runs.sinks)
      (goes_one rules.lang s h is s.ledger k n (run_of rules.lang.cmp s.graph k) (inject_runs rules.lang s h k task partition offset checkpoint keeps.expanded at_task was pending none within copies) refl)

  pub keeps_inject : (result : Result Unit CoreFault) → EndsInject s.graph task h k result → KeepsAndGoes rules s (record s { held = left_by result (Some k); faults = n })
  keeps_inject (Ok u) ends = injects ends.2.0 ends.1 ends.0 ends.2.1 ends.3 ends.4 ends.5 ends.6
  keeps_inject (Err NoSuchTask) ends = keeps_still rules s keeps h is k n ends.1
  keeps_inject (Err NoCheckpoint) ends = keeps_still rules s keeps h is k n ends.2
  keeps_inject (Err NotReady) ends = keeps_still rules s keeps h is k n ends.3
  keeps_inject (Err Memory) ends = keeps_still rules s keeps h is k n ends.3
  keeps_inject (Err other) ends = absurd ends
