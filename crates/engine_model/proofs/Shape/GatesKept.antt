-- Each change of what a running job holds keeps what each task's gate says.
use Rattle.std.proofs.Common.{◌≡◌, ◌≢◌, ◌<◌, inl, inr, Some, None, slice_get, is_some, length, ℕ, Bool, true, false, List, [], ◌∷◌, refl, sym, ap, subst, ◌∙◌, arith}
use Rattle.std.proofs.lemmas.Bool.{cases_Bool}
use Rattle.std.proofs.lemmas.Bool.Decides.{eqb_tells}
use Rattle.std.proofs.lemmas.Option.{same_Some, none-some}
use Rattle.alignment.specs.Inputs as gates
use Rattle.alignment.specs.Inputs.{fresh, with_barrier, missing_unmarked, missing_marked}
use Rattle.alignment.specs.Table.{Alignment, IsKept, has_copied, effect_of, after}
use Rattle.alignment.specs.declared.input.Effect.TheVariants.{Blocked}
use Rattle.alignment.specs.declared.input.Input.{Input}
use Rattle.alignment.specs.declared.input.Phase.{Phase}
use Rattle.alignment.specs.declared.input.Phase.TheVariants.{AtRest, Aligning, Copied}
use Rattle.alignment.proofs.Counts.{one_less}
use Rattle.alignment.proofs.Rows.{blocked_keeps}
use Rattle.coordinator.specs.Coordinator.{Coordination, has_acked}
use Rattle.job_graph.specs.Expanded.{Expanded, IsExpanded, is_source, inputs_of}
use Rattle.job_graph.specs.declared.role.Role.TheVariants as role
use Rattle.job_state.specs.Held.{Held, copy_at, came_at, gate_at}
use Rattle.engine_model.specs.Calls.{input_at, is_copy}
use Rattle.engine_model.specs.Keeps.{NotesBarriers, StandsAs, GateFits}
use Rattle.engine_model.proofs.Calls.Tasks.{LeadsTo, input_leads}
use Rattle.engine_model.proofs.Shape.Gates.{one_input, one_task, within_gate, awaits, not_acked, mark_with, closes_at, blocks_at, after_length, after_mark, after_kept, after_stands, has_copied_copy, notes_by, first_by, closed_by, index_set_same, index_set_other}
use Rattle.engine_model.proofs.Lists.{set_length}

empty_by : (xs : List ℕ) → ((i n : ℕ) → slice_get xs i ≡ Some n → ⊥) → length xs ≡ 0
empty_by [] none = refl
empty_by (x ∷ xs) none = absurd (none 0 x refl)

empty_inputs : (inputs : List Input) → length inputs ≡ 0 → inputs ≡ []
empty_inputs [] none = refl
empty_inputs (x ∷ xs) none = absurd (omega (arith, none))

-- no input of a source
pub no_inputs : (graph : Expanded) → IsExpanded graph → (task partition input number : ℕ) → slice_get graph.tasks task ≡ Some (role.Source partition) → input_at graph task input ≡ Some number → ⊥
no_inputs graph expanded task partition input number is leads =
    let to : LeadsTo graph task number = input_leads graph task input number leads in
    let receiver = (expanded.joined number to.channel to.is).receiver in
    let same : receiver.role ≡ role.Source partition = same_Some receiver.role (role.Source partition) (sym receiver.is ∙ ap (slice_get graph.tasks) to.to ∙ is) in
    true_false (ap is_source (sym same) ∙ receiver.takes)
  where
    true_false : true ≡ false → ⊥
    true_false e = cc

module _ {R K S : Type 0} (graph : Expanded) (h : Held R K S) (task : ℕ) (fits : GateFits graph h task) where
  -- a gate without inputs is at rest
  pub rests_without : ((input number : ℕ) → input_at graph task input ≡ Some number → ⊥) → (gate_at h task).phase ≡ AtRest
  rests_without none = of (gate_at h task).phase (gate_at h task).inputs (empty_inputs (gate_at h task).inputs (fits.one_each ∙ empty_by (inputs_of graph task) none)) fits.kept fits.stands
    where
      of : (phase : Phase) (inputs : List Input) → inputs ≡ [] → IsKept phase inputs → StandsAs graph h task phase inputs → phase ≡ AtRest
      of AtRest inputs e kept stands = refl
      of (Aligning number) inputs e kept stands = absurd (omega (arith, stands.3, ap (λ (xs : List Input). length xs) e))
      of (Copied number) inputs e kept stands = absurd (omega (arith, kept.1, ap missing_marked e))

  -- so is one while nothing is pending
  pub rests_unpending : h.coordination.pending ≡ None → (gate_at h task).phase ≡ AtRest
  rests_unpending none = of (gate_at h task).phase (gate_at h task).inputs fits.stands
    where
      of : (phase : Phase) (inputs : List Input) → StandsAs graph h task phase inputs → phase ≡ AtRest
      of AtRest inputs stands = refl
      of (Aligning number) inputs stands = absurd (none-some number (sym none ∙ stands.0))
      of (Copied number) inputs stands = absurd (none-some number (sym none ∙ stands.0))

  module _ (k : Held R K S) where
    -- the gate is the same, and is at rest
    pub fits_rest : gate_at k task ≡ gate_at h task → (gate_at h task).phase ≡ AtRest → ((input number : ℕ) → input_at graph task input ≡ Some number → came_at k number ≡ is_some (copy_at k task))
        → (has_acked k.coordination task ≡ true → copy_at k task ≢ None) → GateFits graph k task
    fits_rest same rest came copied = record {
      one_each = ap (λ (g : Alignment). length g.inputs) same ∙ fits.one_each;
      marks = λ input number is. ap (λ (g : Alignment). (gates.input_at g.inputs input).is_marked) same ∙ fits.marks input number is;
      kept = subst (λ (g : Alignment). IsKept g.phase g.inputs) (sym same) fits.kept;
      stands = subst (λ (p : Phase). StandsAs graph k task p (gate_at k task).inputs) (sym (ap (λ (g : Alignment). g.phase) same ∙ rest)) came;
      acknowledged = λ acked. (copied acked, ap (λ (g : Alignment). g.phase) same ∙ rest);
    }

    -- nothing that the gate tells of is changed
    pub fits_same : gate_at k task ≡ gate_at h task → copy_at k task ≡ copy_at h task → k.coordination.pending ≡ h.coordination.pending → (has_acked k.coordination task ≡ true → has_acked h.coordination task ≡ true)
        → ((input number : ℕ) → input_at graph task input ≡ Some number → came_at k number ≡ came_at h number) → GateFits graph k task
    fits_same same copy pending acked came = record {
      one_each = ap (λ (g : Alignment). length g.inputs) same ∙ fits.one_each;
      marks = λ input number is. ap (λ (g : Alignment). (gates.input_at g.inputs input).is_marked) same ∙ fits.marks input number is;
      kept = subst (λ (g : Alignment). IsKept g.phase g.inputs) (sym same) fits.kept;
      stands = subst (λ (g : Alignment). StandsAs graph k task g.phase g.inputs) (sym same) (still (gate_at h task).phase (gate_at h task).inputs fits.stands);
      acknowledged = λ now. let done = fits.acknowledged (acked now) in (λ e. done.0 (sym copy ∙ e), ap (λ (g : Alignment). g.phase) same ∙ done.1);
    }
      where
        still : (phase : Phase) (inputs : List Input) → StandsAs graph h task phase inputs → StandsAs graph k task phase inputs
        still AtRest inputs stands = λ input number is. came input number is ∙ stands input number is ∙ ap is_some (sym copy)
        still (Aligning checkpoint) inputs stands = (pending ∙ stands.0, copy ∙ stands.1, λ input number is. stands.2 input number is ∙ sym (came input number is), stands.3)
        still (Copied checkpoint) inputs stands = (pending ∙ stands.0, λ e. stands.1 (sym copy ∙ e), λ input number is. stands.2 input number is ∙ sym (came input number is))

  -- a barrier is taken from an input, which is this channel
  module _ (input channel : ℕ) (leads : input_at graph task input ≡ Some channel) (checkpoint : ℕ) (pending : h.coordination.pending ≡ Some checkpoint) (not_came : came_at h channel ≡ false) (k : Held R K S)
      (gate_is : gate_at k task ≡ after (effect_of (gate_at h task) input) checkpoint (with_barrier (gate_at h task).inputs input)) (coordination : k.coordination ≡ h.coordination)
      (here : came_at k channel ≡ true) (elsewhere : (number : ℕ) → (number ≡ channel → ⊥) → came_at k number ≡ came_at h number)
      (same_copy : is_copy (effect_of (gate_at h task) input) ≡ false → copy_at k task ≡ copy_at h task) (new_copy : is_copy (effect_of (gate_at h task) input) ≡ true → copy_at k task ≢ None) where
    abbrev phase : Phase
    phase = (gate_at h task).phase

    abbrev inputs : List Input
    inputs = (gate_at h task).inputs

    abbrev mark : Bool
    mark = (gates.input_at inputs input).is_marked

    abbrev barrier : Input
    barrier = record (gates.input_at inputs input) { came = true }

    abbrev ys : List Input
    ys = with_barrier inputs input

    within : input < length inputs
    within = within_gate graph h task fits input channel leads

    awaited : (gates.input_at inputs input).came ≡ false
    awaited = awaits graph h task fits input channel leads checkpoint pending not_came

    long : length ys ≡ length (inputs_of graph task)
    long = set_length inputs input barrier ∙ fits.one_each

    noted : NotesBarriers graph h task inputs
    noted = notes_by graph h task input channel leads checkpoint pending not_came phase inputs fits.one_each fits.kept fits.stands

    notes : NotesBarriers graph k task ys
    notes other number is =
        elim (eqb_tells other input) [
          | inl same ↦
              let one : number ≡ channel = same_Some number channel (sym is ∙ ap (input_at graph task) same.1 ∙ leads) in
              ap (λ (n : ℕ). (gates.input_at ys n).came) same.1 ∙ ap (λ (x : Input). x.came) (index_set_same inputs input barrier (fresh false) within) ∙ sym (ap (came_at k) one ∙ here)
          | inr apart ↦
              ap (λ (x : Input). x.came) (index_set_other inputs input other barrier (fresh false) apart.1)
              ∙ noted other number is ∙ sym (elsewhere number (λ e. apart.1 (one_input graph task other input channel (is ∙ ap Some e) leads)))
        ]

    -- once copied, no unmarked barrier is missing
    closed : has_copied phase ≡ true → missing_unmarked ys ≡ 0
    closed copied =
        let none : missing_unmarked inputs ≡ 0 = closed_by graph h task input channel leads checkpoint pending not_came phase inputs fits.kept copied in
        omega (arith, none, (one_less inputs input within awaited).unmarked)

    first : effect_of (gate_at h task) input ≡ Blocked → copy_at k task ≡ None
    first is =
        same_copy (ap is_copy is)
        ∙ first_by graph h task input channel leads checkpoint pending not_came phase inputs fits.stands
        (λ copied. let none : missing_unmarked ys ≡ 0 = closed copied in let more : 0 < missing_unmarked ys = blocks_at (has_copied phase) mark (missing_unmarked ys) (missing_marked ys) is copied in omega (arith, none, more))

    copied_now : (effect_of (gate_at h task) input ≡ Blocked → ⊥) → copy_at k task ≢ None
    copied_now goes =
        elim (cases_Bool (is_copy (effect_of (gate_at h task) input))) [
          | inl copies ↦ new_copy copies
          | inr none ↦ λ e. has_copied_copy graph h task phase inputs fits.stands (closes_at (has_copied phase) mark (missing_unmarked ys) (missing_marked ys) none goes) (sym (same_copy none) ∙ e)
        ]

    pub fits_barrier : GateFits graph k task
    fits_barrier = record {
      one_each = ap (λ (g : Alignment). length g.inputs) gate_is ∙ after_length (effect_of (gate_at h task) input) checkpoint ys ∙ long;
      marks = λ other number is.
          ap (λ (g : Alignment). (gates.input_at g.inputs other).is_marked) gate_is ∙ after_mark (effect_of (gate_at h task) input) checkpoint ys other ∙ mark_with inputs input other ∙ fits.marks other number is;
      kept =
          subst (λ (g : Alignment). IsKept g.phase g.inputs) (sym gate_is)
          (after_kept checkpoint ys (has_copied phase) mark (missing_unmarked ys) (missing_marked ys) refl refl (λ copied marked. closed copied) (λ is. blocked_keeps (gate_at h task) input checkpoint within awaited fits.kept is));
      stands =
          subst (λ (g : Alignment). StandsAs graph k task g.phase g.inputs) (sym gate_is)
          (after_stands checkpoint ys graph k task (ap (λ c. c.pending) coordination ∙ pending) notes long (subst (λ n. 0 < n) (sym (set_length inputs input barrier)) (some_input (length inputs) within))
          (has_copied phase) mark (missing_unmarked ys) (missing_marked ys) refl refl (λ copied marked. closed copied) first copied_now);
      acknowledged = λ acked. absurd (not_acked graph h task fits input channel leads checkpoint pending not_came (ap (λ c. has_acked c task) (sym coordination) ∙ acked));
    }
      where
        some_input : (n : ℕ) → input < n → 0 < n
        some_input n less = omega (arith, less)

-- the gate of another task, where a barrier is taken from an input, which is this channel
pub fits_beside : {R K S : Type 0} (graph : Expanded) (h k : Held R K S) (task input channel t : ℕ) → input_at graph task input ≡ Some channel → (t ≡ task → ⊥) → GateFits graph h t → gate_at k t ≡ gate_at h t → copy_at k t ≡ copy_at h t
    → k.coordination ≡ h.coordination → ((number : ℕ) → (number ≡ channel → ⊥) → came_at k number ≡ came_at h number) → GateFits graph k t
fits_beside graph h k task input channel t leads apart fits gate copy coordination elsewhere =
    fits_same graph h t fits k gate copy (ap (λ (c : Coordination). c.pending) coordination) (λ acked. ap (λ (c : Coordination). has_acked c t) (sym coordination) ∙ acked)
    (λ i number is. elsewhere number (λ e. apart (one_task graph t task i input channel (is ∙ ap Some e) leads)))
