-- The part that a task puts is its copy, with its logs.
use Rattle.std.proofs.Common.{◌≡◌, Option, Some, is_some, slice_get, ℕ, true, false, refl, sym, ap, ap₂, subst, ◌∙◌, Ordering}
use Rattle.std.proofs.lemmas.Bool.{false≢true}
use Rattle.std.proofs.lemmas.Option.{same_Some}
use Rattle.alignment.specs.declared.input.Phase.{Phase}
use Rattle.alignment.specs.declared.input.Phase.TheVariants.{AtRest}
use Rattle.checkpoint_model.specs.Engine.{IsPartOf}
use Rattle.job_graph.specs.Expanded.{Expanded, IsExpanded, is_source, inputs_of}
use Rattle.job_graph.specs.declared.role.Role.{Role}
use Rattle.job_graph.specs.declared.role.Role.TheVariants as role
use Rattle.job_state.specs.Held.{Held, copy_at, came_at, gate_at, logs_of, with_logs}
use Rattle.task_part.specs.Spelling.{Logs}
use Rattle.task_part.specs.declared.part.Part.{Part}
use Rattle.task_part.specs.declared.part.Part.TheVariants as part
use Rattle.engine_model.specs.Language.{Language}
use Rattle.engine_model.specs.State.{State}
use Rattle.engine_model.specs.View.{log_at, part_view, copied_state, named_by, run_of, job_of}
use Rattle.engine_model.specs.Keeps.{CopyAs, PartAs, LogsSuit, StandsAs, GateFits}
use Rattle.engine_model.proofs.Store.Logs.{OnlyMarked, input_of, logs_say}

module _ {R K S : Type 0} (cmp : K → K → Ordering) (logs : Logs R) where
  offset_of : (p : Part R K S) → (part_view cmp (with_logs logs p)).offset ≡ (copied_state cmp (Some p)).offset
  offset_of (part.Source offset) = refl
  offset_of (part.Operator entries none) = refl
  offset_of (part.Sink names none) = refl

  states_of : (p : Part R K S) → (part_view cmp (with_logs logs p)).states ≡ (copied_state cmp (Some p)).states
  states_of (part.Source offset) = refl
  states_of (part.Operator entries none) = refl
  states_of (part.Sink names none) = refl

  logs_in : (r : Role) (p : Part R K S) → is_source r ≡ false → CopyAs r (Some p) → (number : ℕ) → (part_view cmp (with_logs logs p)).logs number ≡ log_at logs number
  logs_in (role.Source partition) p takes form number = absurd (false≢true (sym takes))
  logs_in (role.Operator k) p takes form number = ap (λ (q : Part R K S). (part_view cmp (with_logs logs q)).logs number) form.1
  logs_in (role.Sink subtask) p takes form number = ap (λ (q : Part R K S). (part_view cmp (with_logs logs q)).logs number) form.1

  names_of : (r : Role) (p : Part R K S) → CopyAs r (Some p) → (part_view cmp (with_logs logs p)).names ≡ named_by (Some r) (Some p)
  names_of (role.Source partition) p form = ap (λ (q : Part R K S). (part_view cmp (with_logs logs q)).names) form.1
  names_of (role.Operator k) p form = ap (λ (q : Part R K S). (part_view cmp (with_logs logs q)).names) form.1
  names_of (role.Sink subtask) p form = ap (λ (q : Part R K S). (part_view cmp (with_logs logs q)).names) form.1 ∙ sym (ap (λ (q : Part R K S). named_by (Some (role.Sink subtask)) (Some q)) form.1)

-- a copy with logs that suit the task is a part of it
pub part_of_form : {R K S : Type 0} (RecordFits : R → Type 0) (graph : Expanded) (task : ℕ) (logs : Logs R) (r : Role) (p : Part R K S) → LogsSuit RecordFits graph task logs → CopyAs r (Some p) → PartAs RecordFits graph task r (with_logs logs p)
part_of_form RecordFits graph task logs (role.Source partition) p suit form = (form.0, ap (with_logs logs) form.1)
part_of_form RecordFits graph task logs (role.Operator number) p suit form = (form.0, logs, ap (with_logs logs) form.1, suit)
part_of_form RecordFits graph task logs (role.Sink subtask) p suit form = (form.0, logs, ap (with_logs logs) form.1, suit)

module _ {R K S : Type 0} (graph : Expanded) (h : Held R K S) (task : ℕ) where
  -- the barriers of all inputs of the task were taken
  abbrev pub HaveCome : Type 0
  HaveCome = (input number : ℕ) → slice_get (inputs_of graph task) input ≡ Some number → came_at h number ≡ true

  -- as when the task has copied, and its gate is at rest
  pub have_come : (p : Part R K S) → GateFits graph h task → (gate_at h task).phase ≡ AtRest → copy_at h task ≡ Some p → HaveCome
  have_come p fits rest copied input number at =
      let stands : StandsAs graph h task AtRest (gate_at h task).inputs = subst (λ (phase : Phase). StandsAs graph h task phase (gate_at h task).inputs) rest fits.stands in
      stands input number at ∙ ap is_some copied

module _ {R K S O : Type 0} (lang : Language R K S O) (s : State O R K S) (h : Held R K S) where
  pub part_of_copy : (task : ℕ) (r : Role) (p : Part R K S) → IsExpanded s.graph → slice_get s.graph.tasks task ≡ Some r → copy_at h task ≡ Some p → CopyAs r (Some p) → HaveCome s.graph h task → OnlyMarked s.graph h
      → IsPartOf (job_of lang s) (run_of lang.cmp s.graph h) task (part_view lang.cmp (with_logs (logs_of s.graph h task) p))
  part_of_copy task r p expanded is copied form come only = record {
    copied = ap is_some copied;
    closed = λ number channel at receiver. let input = input_of s.graph task number channel at receiver in come input.0 number input.1;
    offset = offset_of lang.cmp (logs_of s.graph h task) p ∙ sym (ap (λ (o : Option (Part R K S)). (copied_state lang.cmp o).offset) copied);
    states = states_of lang.cmp (logs_of s.graph h task) p ∙ sym (ap (λ (o : Option (Part R K S)). (copied_state lang.cmp o).states) copied);
    logs = λ number channel at receiver.
        let takes = (expanded.joined number channel at).receiver in
        let one : takes.role ≡ r = same_Some takes.role r (sym takes.is ∙ ap (slice_get s.graph.tasks) receiver ∙ is) in
        logs_in lang.cmp (logs_of s.graph h task) r p (ap is_source (sym one) ∙ takes.takes) form number ∙ logs_say s.graph h task number channel only at receiver;
    names = λ sink. names_of lang.cmp (logs_of s.graph h task) r p form ∙ sym (ap₂ (λ (q : Option Role) (o : Option (Part R K S)). named_by q o) is copied);
  }
