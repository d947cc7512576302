-- What a running job holds keeps its shape.
use Rattle.std.proofs.Common.{◌≡◌, ◌<◌, inl, inr, All, Option, Some, None, is_some, unwrap_or, replicate, slice_get, slice_set, length, ℕ, zero, suc, Bool, true, false, List, [], refl, sym, ap, subst, ◌∙◌}
use Rattle.std.proofs.lemmas.Bool.Decides.{eqb_tells}
use Rattle.std.proofs.lemmas.Option.{same_Some, none-some, slice_get_within}
use Rattle.alignment.specs.Table.{Alignment}
use Rattle.alignment.specs.declared.input.Phase.TheVariants.{AtRest}
use Rattle.abs_codec.specs.Entries.{value_at}
use Rattle.channels.specs.declared.item.Item.{Item}
use Rattle.coordinator.specs.Coordinator.{Coordination, has_acked}
use Rattle.job_graph.specs.Expanded.{Expanded, is_marked, meets}
use Rattle.job_graph.specs.declared.role.Role.{Role}
use Rattle.job_graph.specs.declared.role.Role.TheVariants as role
use Rattle.job_state.specs.Held.{Held, copy_at, came_at, gate_at, logged_at, cleared}
use Rattle.job_state.specs.Sending.{items_at}
use Rattle.job_state.specs.declared.holding.Holding.{Holding}
use Rattle.job_state.specs.declared.holding.Holding.TheVariants as holds
use Rattle.task_part.specs.declared.part.Part.{Part}
use Rattle.engine_model.specs.AllRules.{AllRules, IsGood}
use Rattle.engine_model.specs.Keeps.{HoldsAs, CopyAs, IfRecord, GateFits, AreHeld, AllFit, LogsFit, BarriersStand, CameAfter, Shape}
use Rattle.std.proofs.lemmas.List.Elements.{All-from_recursion}
use Rattle.engine_model.proofs.Shape.GatesKept.{fits_same, fits_rest}
use Rattle.engine_model.proofs.Lists.{get_set_same, get_set_other, set_length}

pub replicate_length : {A : Type 0} (n : ℕ) (x : A) → length (replicate n x) ≡ n
replicate_length zero x = refl
replicate_length (suc n) x = ap suc (replicate_length n x)

pub replicate_at : {A : Type 0} (n i : ℕ) (x : A) → unwrap_or (slice_get (replicate n x) i) x ≡ x
replicate_at zero i x = refl
replicate_at (suc n) zero x = refl
replicate_at (suc n) (suc i) x = replicate_at n i x

-- What a running job holds, but for the barriers in its channels.
pub record Frame {R K S O : Type 0} (rules : AllRules R K S O) (graph : Expanded) (operators : List O) (held : Held R K S) : Type 0 where
  pub tasks : length held.tasks ≡ length graph.tasks
  pub channels : length held.channels ≡ length graph.channels
  pub copies : length held.copies ≡ length graph.tasks
  pub gates : length held.gates ≡ length graph.tasks
  pub came : length held.came ≡ length graph.channels
  pub logs : length held.logs ≡ length graph.channels
  pub acked : length held.coordination.acked ≡ length graph.tasks
  pub none_copied : held.coordination.pending ≡ None → (task : ℕ) → copy_at held task ≡ None
  pub none_came : held.coordination.pending ≡ None → (number : ℕ) → came_at held number ≡ false
  pub gate_fits : (task : ℕ) → task < length graph.tasks → GateFits graph held task
  pub only_marked : (number : ℕ) → meets is_marked graph.channels number ≡ false → logged_at held number ≡ []
  pub forms : AreHeld graph held
  pub copy_forms : (task : ℕ) (r : Role) → slice_get graph.tasks task ≡ Some r → CopyAs r (copy_at held task)
  pub fit : AllFit rules.RecordFits held
  pub logs_fit : LogsFit rules.RecordFits held
  pub good : (task number : ℕ) (operator : O) (entries : List (K × S)) (key : K) (state : S) → slice_get graph.tasks task ≡ Some (role.Operator number) → slice_get operators number ≡ Some operator
      → slice_get held.tasks task ≡ Some (holds.Operator entries) → value_at rules.lang.cmp entries key ≡ Some state → IsGood rules operator state

module _ {R K S O : Type 0} (rules : AllRules R K S O) (graph : Expanded) (operators : List O) (held : Held R K S) where
  pub frame_of : Shape rules graph operators held → Frame rules graph operators held
  frame_of shape = record {
    tasks = shape.tasks;
    channels = shape.channels;
    copies = shape.copies;
    gates = shape.gates;
    came = shape.came;
    logs = shape.logs;
    acked = shape.acked;
    none_copied = shape.none_copied;
    none_came = shape.none_came;
    gate_fits = shape.gate_fits;
    only_marked = shape.only_marked;
    forms = shape.forms;
    copy_forms = shape.copy_forms;
    fit = shape.fit;
    logs_fit = shape.logs_fit;
    good = shape.good;
  }

  pub shape_with : Frame rules graph operators held → BarriersStand graph held → CameAfter graph held → Shape rules graph operators held
  shape_with frame barriers came_after = record {
    tasks = frame.tasks;
    channels = frame.channels;
    copies = frame.copies;
    gates = frame.gates;
    came = frame.came;
    logs = frame.logs;
    acked = frame.acked;
    none_copied = frame.none_copied;
    none_came = frame.none_came;
    barriers = barriers;
    came_after = came_after;
    gate_fits = frame.gate_fits;
    only_marked = frame.only_marked;
    forms = frame.forms;
    copy_forms = frame.copy_forms;
    fit = frame.fit;
    logs_fit = frame.logs_fit;
    good = frame.good;
  }

module _ {R K S O : Type 0} (rules : AllRules R K S O) (graph : Expanded) (operators : List O) where
  abbrev IsShape : Held R K S → Type 0
  IsShape held = Frame rules graph operators held

  -- a holding whose states an operator can go on from
  abbrev pub HoldsGood : Role → Holding K S → Type 0
  HoldsGood r holding = (number : ℕ) (operator : O) (entries : List (K × S)) (key : K) (state : S) → r ≡ role.Operator number → slice_get operators number ≡ Some operator → holding ≡ holds.Operator entries → value_at rules.lang.cmp entries key ≡ Some state → IsGood rules operator state

  module _ (old : Held R K S) (shape : IsShape old) where
    -- another task's holding
    pub shape_task : (task : ℕ) (r : Role) (holding : Holding K S) → slice_get graph.tasks task ≡ Some r → HoldsAs r (Some holding) → HoldsGood r holding
        → IsShape (record old { tasks = slice_set old.tasks task holding })
    shape_task task r holding is has good =
        let within : task < length old.tasks = subst (λ n. task < n) (sym shape.tasks) (slice_get_within graph.tasks task r is) in
        record {
          tasks = set_length old.tasks task holding ∙ shape.tasks;
          channels = shape.channels;
          copies = shape.copies;
          gates = shape.gates;
          came = shape.came;
          logs = shape.logs;
          acked = shape.acked;
          none_copied = shape.none_copied;
          none_came = shape.none_came;
          gate_fits = λ t less. fits_same graph old t (shape.gate_fits t less) (record old { tasks = slice_set old.tasks task holding }) refl refl refl (λ acked. acked) (λ input number is. refl);
          only_marked = shape.only_marked;
          forms = λ t q at.
              elim (eqb_tells t task) [
                | inl same ↦
                    let one : q ≡ r = same_Some q r (sym at ∙ ap (slice_get graph.tasks) same.1 ∙ is) in
                    let here : slice_get (slice_set old.tasks task holding) t ≡ Some holding = ap (slice_get (slice_set old.tasks task holding)) same.1 ∙ get_set_same old.tasks task holding within in
                    rw (one, here) has
                | inr other ↦ rw (get_set_other old.tasks task t holding other.1) (shape.forms t q at)
              ];
          copy_forms = shape.copy_forms;
          fit = shape.fit;
          logs_fit = shape.logs_fit;
          good = λ t number operator entries key state at op held value.
              elim (eqb_tells t task) [
                | inl same ↦
                    let here : slice_get (slice_set old.tasks task holding) t ≡ Some holding = ap (slice_get (slice_set old.tasks task holding)) same.1 ∙ get_set_same old.tasks task holding within in
                    good number operator entries key state (same_Some r (role.Operator number) (sym is ∙ sym (ap (slice_get graph.tasks) same.1) ∙ at)) op (same_Some holding (holds.Operator entries) (sym here ∙ held)) value
                | inr other ↦ shape.good t number operator entries key state at op (sym (get_set_other old.tasks task t holding other.1) ∙ held) value
              ];
        }

    -- other channels
    pub shape_channels : (channels : List (List (Item R))) → length channels ≡ length old.channels → ((number : ℕ) → All (IfRecord rules.RecordFits) (items_at channels number)) → IsShape (record old { channels = channels })
    shape_channels channels same fit = record {
      tasks = shape.tasks;
      channels = same ∙ shape.channels;
      copies = shape.copies;
      gates = shape.gates;
      came = shape.came;
      logs = shape.logs;
      acked = shape.acked;
      none_copied = shape.none_copied;
      none_came = shape.none_came;
      gate_fits = λ t less. fits_same graph old t (shape.gate_fits t less) (record old { channels = channels }) refl refl refl (λ acked. acked) (λ input number is. refl);
      only_marked = shape.only_marked;
      forms = shape.forms;
      copy_forms = shape.copy_forms;
      fit = fit;
      logs_fit = shape.logs_fit;
      good = shape.good;
    }

    -- the log of a channel with one record more
    pub shape_logs : (logs : List (List R)) → length logs ≡ length old.logs → ((number : ℕ) → meets is_marked graph.channels number ≡ false → unwrap_or (slice_get logs number) [] ≡ [])
        → ((number : ℕ) → All rules.RecordFits (unwrap_or (slice_get logs number) [])) → IsShape (record old { logs = logs })
    shape_logs logs same marked fits = record {
      tasks = shape.tasks;
      channels = shape.channels;
      copies = shape.copies;
      gates = shape.gates;
      came = shape.came;
      logs = same ∙ shape.logs;
      acked = shape.acked;
      none_copied = shape.none_copied;
      none_came = shape.none_came;
      gate_fits = λ t less. fits_same graph old t (shape.gate_fits t less) (record old { logs = logs }) refl refl refl (λ acked. acked) (λ input number is. refl);
      only_marked = marked;
      forms = shape.forms;
      copy_forms = shape.copy_forms;
      fit = shape.fit;
      logs_fit = fits;
      good = shape.good;
    }

    -- while a checkpoint is pending: other gates, barriers and copies
    pub shape_gates : (gates : List Alignment) (came : List Bool) (copies : List (Option (Part R K S))) (checkpoint : ℕ) → old.coordination.pending ≡ Some checkpoint
        → length gates ≡ length old.gates → length came ≡ length old.came → length copies ≡ length old.copies
        → ((t : ℕ) → t < length graph.tasks → GateFits graph (record old { gates = gates; came = came; copies = copies }) t)
        → ((t : ℕ) (r : Role) → slice_get graph.tasks t ≡ Some r → CopyAs r (unwrap_or (slice_get copies t) None)) → IsShape (record old { gates = gates; came = came; copies = copies })
    shape_gates gates came copies checkpoint pending gates_long came_long copies_long fits forms = record {
      tasks = shape.tasks;
      channels = shape.channels;
      copies = copies_long ∙ shape.copies;
      gates = gates_long ∙ shape.gates;
      came = came_long ∙ shape.came;
      logs = shape.logs;
      acked = shape.acked;
      none_copied = λ none. absurd (none-some checkpoint (sym none ∙ pending));
      none_came = λ none. absurd (none-some checkpoint (sym none ∙ pending));
      gate_fits = fits;
      only_marked = shape.only_marked;
      forms = shape.forms;
      copy_forms = forms;
      fit = shape.fit;
      logs_fit = shape.logs_fit;
      good = shape.good;
    }

    -- a copy that its task's role asks for, among those that there were
    pub copy_forms_set : (task : ℕ) (r : Role) (p : Part R K S) → slice_get graph.tasks task ≡ Some r → CopyAs r (Some p) → (t : ℕ) (q : Role) → slice_get graph.tasks t ≡ Some q → CopyAs q (unwrap_or (slice_get (slice_set old.copies task (Some p)) t) None)
    copy_forms_set task r p is form t q at =
        elim (eqb_tells t task) [
          | inl same ↦
              let one : q ≡ r = same_Some q r (sym at ∙ ap (slice_get graph.tasks) same.1 ∙ is) in
              let here : slice_get (slice_set old.copies task (Some p)) t ≡ Some (Some p) = ap (slice_get (slice_set old.copies task (Some p))) same.1 ∙ get_set_same old.copies task (Some p) within in
              rw (one, here) form
          | inr other ↦ rw (get_set_other old.copies task t (Some p) other.1) (shape.copy_forms t q at)
        ]
      where
        within : task < length old.copies
        within = subst (λ n. task < n) (sym shape.copies) (slice_get_within graph.tasks task r is)

    -- the pending checkpoint goes on
    pub shape_coordination : (c : Coordination) → length c.acked ≡ length old.coordination.acked → c.pending ≡ old.coordination.pending → ((t : ℕ) → t < length graph.tasks → GateFits graph (record old { coordination = c }) t)
        → IsShape (record old { coordination = c })
    shape_coordination c same pending fits = record {
      tasks = shape.tasks;
      channels = shape.channels;
      copies = shape.copies;
      gates = shape.gates;
      came = shape.came;
      logs = shape.logs;
      acked = same ∙ shape.acked;
      none_copied = λ none. shape.none_copied (sym pending ∙ none);
      none_came = λ none. shape.none_came (sym pending ∙ none);
      gate_fits = fits;
      only_marked = shape.only_marked;
      forms = shape.forms;
      copy_forms = shape.copy_forms;
      fit = shape.fit;
      logs_fit = shape.logs_fit;
      good = shape.good;
    }

    -- the copies, the barriers and the logs are dropped, and the coordinator goes on
    pub shape_cleared : (c : Coordination) → length c.acked ≡ length old.coordination.acked → ((t : ℕ) → t < length graph.tasks → (gate_at old t).phase ≡ AtRest) → ((t : ℕ) → has_acked c t ≡ true → ⊥)
        → IsShape (record (cleared old) { coordination = c })
    shape_cleared c same rest unacked = record {
      tasks = shape.tasks;
      channels = shape.channels;
      copies = replicate_length (length old.copies) None ∙ shape.copies;
      gates = shape.gates;
      came = replicate_length (length old.came) false ∙ shape.came;
      logs = replicate_length (length old.logs) [] ∙ shape.logs;
      acked = same ∙ shape.acked;
      none_copied = λ none t. replicate_at (length old.copies) t None;
      none_came = λ none number. replicate_at (length old.came) number false;
      gate_fits = λ t less.
          fits_rest graph old t (shape.gate_fits t less) (record (cleared old) { coordination = c }) refl (rest t less)
          (λ input number is. replicate_at (length old.came) number false ∙ sym (ap (λ (o : Option (Part R K S)). is_some o) (replicate_at (length old.copies) t None))) (λ acked. absurd (unacked t acked));
      only_marked = λ number unmarked. replicate_at (length old.logs) number [];
      forms = shape.forms;
      copy_forms = λ t r at. rw (replicate_at {A = Option (Part R K S)} (length old.copies) t None) tt;
      fit = shape.fit;
      logs_fit = λ number. rw (replicate_at {A = List R} (length old.logs) number []) (All-from_recursion rules.RecordFits [] tt);
      good = shape.good;
    }
