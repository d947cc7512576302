-- Each change of what a running job holds keeps its shape.
use Rattle.std.proofs.Common.{◌≡◌, ◌≢◌, ◌<◌, ◌+◌, ◌&&◌, ◌++◌, not, inl, inr, if◌then◌else◌, All, Option, Some, None, slice_get, slice_set, slice_index_or, unwrap_or, is_some, length, map, drop, replicate, ℕ, zero, suc, Bool, true, false, List, [], ◌∷◌, refl, sym, ap, subst, ◌∙◌, arith}
use Rattle.std.proofs.lemmas.Bool.{true≢false, and_parts, cases_Bool, cases_lt}
use Rattle.std.proofs.lemmas.Bool.Decides.{eqb_tells}
use Rattle.std.proofs.lemmas.List.Elements.{All-append, All-from_recursion}
use Rattle.std.proofs.lemmas.Option.{same_Some, none-some, slice_get_within}
use Rattle.alignment.specs.Inputs as gates
use Rattle.alignment.specs.Inputs.{with_barrier}
use Rattle.alignment.specs.Table.{Alignment, has_copied, is_logged, effect_of, after}
use Rattle.alignment.specs.declared.input.Phase.{Phase}
use Rattle.alignment.specs.declared.input.Phase.TheVariants.{AtRest}
use Rattle.abs_codec.specs.Entries.{value_at}
use Rattle.channels.specs.declared.item.Item.{Item}
use Rattle.channels.specs.declared.item.Item.TheVariants.{Record}
use Rattle.commit_sink.specs.Sink.{Sinking}
use Rattle.coordinator.specs.Coordinator.{IsReady, started, acknowledged, completed}
use Rattle.dataflow_model.specs.Graph.{Meaning}
use Rattle.dataflow_model.specs.Machine.{received, kept_under}
use Rattle.job_graph.specs.Expanded.{Expanded, IsExpanded, is_marked, meets}
use Rattle.job_graph.specs.declared.role.Role.{Role}
use Rattle.job_graph.specs.declared.role.Role.TheVariants as role
use Rattle.job_state.specs.Held.{Held, copy_at, gate_at, came_at, log_with, record_logged, record_taken, barrier_taken, Reads, Operates, CopiesSource, CopiesOperator, sink_copied, oldest_forgotten, with_started, with_acknowledged, with_completed}
use Rattle.job_state.specs.Sending.{items_at, barrier_into, without_head}
use Rattle.job_state.specs.declared.holding.Holding.TheVariants as holds
use Rattle.task_part.specs.declared.part.Part.TheVariants as part
use Rattle.task_part.specs.declared.part.Part.{Part}
use Rattle.engine_model.specs.AllRules.{AllRules, IsGood}
use Rattle.engine_model.specs.Calls.{input_at, IsBarrierNext, is_copy}
use Rattle.engine_model.specs.Keeps.{GateFits, StandsAs, IfRecord, CopyAs}
use Rattle.engine_model.proofs.Calls.Tasks.{LeadsTo, input_leads}
use Rattle.engine_model.proofs.Shape.Gates.{log_elsewhere, index_set_other}
use Rattle.engine_model.proofs.Shape.GatesKept.{no_inputs, rests_without, rests_unpending, fits_rest, fits_same, fits_barrier, fits_beside}
use Rattle.engine_model.proofs.Lists.{get_set_same, get_set_other, set_past, set_length}
use Rattle.engine_model.proofs.Shape.Fitting.{fit_puts, fit_taken, fit_records, fit_barriers, fit_received}
use Rattle.engine_model.proofs.Store.Complete.{ready_acked}
use Rattle.engine_model.proofs.Shape.Shapes.{Frame, HoldsGood, replicate_length, shape_task, shape_channels, shape_logs, shape_gates, copy_forms_set, shape_coordination, shape_cleared}

-- the first of a channel's items fits
first_fits : {R : Type 0} (Fits : R → Type 0) (items : List (Item R)) (row : R) → All (IfRecord Fits) items → slice_get items 0 ≡ Some (Record row) → Fits row
first_fits Fits [] row all head = absurd (none-some (Record row) head)
first_fits Fits (item ∷ items) row all head = subst (IfRecord Fits) (same_Some item (Record row) head) (all 0 item (omega arith))

log_length : {R : Type 0} (b : Bool) (channel : ℕ) (row : R) (logs : List (List R)) → length (log_with b channel row logs) ≡ length logs
log_length false channel row logs = refl
log_length true channel row logs = set_length logs channel (unwrap_or (slice_get logs channel) [] ++ row ∷ [])

-- records that fit, and one more that does
log_fits : {R : Type 0} (Fits : R → Type 0) (b : Bool) (channel : ℕ) (row : R) (logs : List (List R)) → Fits row → ((number : ℕ) → All Fits (unwrap_or (slice_get logs number) []))
    → (number : ℕ) → All Fits (unwrap_or (slice_get (log_with b channel row logs) number) [])
log_fits Fits false channel row logs fits all number = all number
log_fits {R} Fits true channel row logs fits all number =
    elim (cases_lt channel (length logs)) [
      | inr past ↦ rw (set_past logs channel (unwrap_or (slice_get logs channel) [] ++ row ∷ []) (λ less. omega (arith, past, less))) (all number)
      | inl within ↦ elim (eqb_tells number channel) [
        | inl same ↦
            rw (same.1, get_set_same logs channel (unwrap_or (slice_get logs channel) [] ++ row ∷ []) within)
            (All-append Fits (unwrap_or (slice_get logs channel) []) (row ∷ []) (all channel) (All-from_recursion Fits (row ∷ []) (fits, tt)))
        | inr other ↦ rw (get_set_other logs channel number (unwrap_or (slice_get logs channel) [] ++ row ∷ []) other.1) (all number)
      ]
    ]

pub index_replicate : {A : Type 0} (n i : ℕ) (x : A) → slice_index_or (replicate n x) i x ≡ x
index_replicate zero i x = refl
index_replicate (suc n) zero x = refl
index_replicate (suc n) (suc i) x = index_replicate n i x

pub copy_set : {P : Type 0} (copies : List (Option P)) (task : ℕ) (p : P) → task < length copies → unwrap_or (slice_get (slice_set copies task (Some p)) task) None ≡ Some p
copy_set copies task p within = ap (λ (o : Option (Option _)). unwrap_or o None) (get_set_same copies task (Some p) within)

pub copy_beside : {P : Type 0} (copies : List (Option P)) (task t : ℕ) (p : P) → (t ≡ task → ⊥) → unwrap_or (slice_get (slice_set copies task (Some p)) t) None ≡ unwrap_or (slice_get copies t) None
copy_beside copies task t p apart = ap (λ (o : Option (Option _)). unwrap_or o None) (get_set_other copies task t (Some p) apart)

module _ {R K S O : Type 0} (rules : AllRules R K S O) (graph : Expanded) (operators : List O) where
  abbrev IsShape : Held R K S → Type 0
  IsShape held = Frame rules graph operators held

  source_good : (offset : ℕ) (r : Role) → HoldsGood {R = R} rules graph operators r (holds.Source offset)
  source_good offset r = λ number operator entries key state is op same value. absurd cc

  sink_good : (sink : Sinking) (r : Role) → HoldsGood {R = R} rules graph operators r (holds.Sink sink)
  sink_good sink r = λ number operator entries key state is op same value. absurd cc

  module _ (old : Held R K S) (shape : IsShape old) where
    pub shape_reads : (meaning : Meaning R K S O) (task partition offset : ℕ) (row : R) (new : Held R K S) → slice_get graph.tasks task ≡ Some (role.Source partition) → rules.RecordFits row → Reads meaning graph task offset row old new → IsShape new
    shape_reads meaning task partition offset row new is fits reads =
        let moved : Held R K S = record old { tasks = slice_set old.tasks task (holds.Source (offset + 1)) } in
        let first : IsShape moved = shape_task rules graph operators old shape task (role.Source partition) (holds.Source (offset + 1)) is (offset + 1, refl) (source_good (offset + 1) (role.Source partition)) in
        let sent_fits : All (λ (s : ℕ × R). rules.RecordFits s.1) ((0, row) ∷ []) = one_fits in
        subst IsShape (sym reads.ends)
        (shape_channels rules graph operators moved first new.channels reads.sent.same_length
        (fit_puts rules.RecordFits (λ number. map Record (received meaning task ((0, row) ∷ []) (slice_get graph.channels number))) old.channels new.channels
        (λ number. fit_records rules.RecordFits (received meaning task ((0, row) ∷ []) (slice_get graph.channels number)) (fit_received rules.RecordFits meaning task ((0, row) ∷ []) (slice_get graph.channels number) sent_fits))
        reads.sent shape.fit))
      where
        one_fits : All (λ (s : ℕ × R). rules.RecordFits s.1) ((0, row) ∷ [])
        one_fits zero d within = fits
        one_fits (suc k) d within = absurd (omega (arith, within))

    -- what is logged was taken from a back-edge, and fits
    shape_logged : (task input channel : ℕ) (r : Role) (row : R) → slice_get graph.tasks task ≡ Some r → input_at graph task input ≡ Some channel → slice_get (items_at old.channels channel) 0 ≡ Some (Record row)
        → IsShape (record_logged task input channel row old)
    shape_logged task input channel r row is leads head =
        shape_logs rules graph operators old shape (log_with (is_logged (gate_at old task) input) channel row old.logs) (log_length (is_logged (gate_at old task) input) channel row old.logs) marked fits
      where
        gate : GateFits graph old task
        gate = shape.gate_fits task (slice_get_within graph.tasks task r is)

        back_edge : is_logged (gate_at old task) input ≡ true → meets is_marked graph.channels channel ≡ true
        back_edge logged =
            sym (gate.marks input channel leads)
            ∙ (and_parts (gates.input_at (gate_at old task).inputs input).is_marked (not (gates.input_at (gate_at old task).inputs input).came) (and_parts (has_copied (gate_at old task).phase) _ logged).1).0

        marked : (number : ℕ) → meets is_marked graph.channels number ≡ false → unwrap_or (slice_get (log_with (is_logged (gate_at old task) input) channel row old.logs) number) [] ≡ []
        marked number unmarked =
            elim (cases_Bool (is_logged (gate_at old task) input)) [
              | inl logged ↦
                  log_elsewhere (is_logged (gate_at old task) input) channel row old.logs number (λ e. true≢false (sym (ap (meets is_marked graph.channels) e ∙ back_edge logged) ∙ unmarked)) ∙ shape.only_marked number unmarked
              | inr none ↦ ap (λ (b : Bool). unwrap_or (slice_get (log_with b channel row old.logs) number) []) none ∙ shape.only_marked number unmarked
            ]

        fits : (number : ℕ) → All rules.RecordFits (unwrap_or (slice_get (log_with (is_logged (gate_at old task) input) channel row old.logs) number) [])
        fits = log_fits rules.RecordFits (is_logged (gate_at old task) input) channel row old.logs (first_fits rules.RecordFits (items_at old.channels channel) row (shape.fit channel) head) shape.logs_fit

    -- a record is taken
    pub shape_puts_out : (task input channel : ℕ) (r : Role) (row : R) → slice_get graph.tasks task ≡ Some r → input_at graph task input ≡ Some channel → slice_get (items_at old.channels channel) 0 ≡ Some (Record row)
        → IsShape (record_taken task input channel row old)
    shape_puts_out task input channel r row is leads head =
        shape_channels rules graph operators (record_logged task input channel row old) (shape_logged task input channel r row is leads head) (without_head channel old.channels)
        (set_length old.channels channel (drop 1 (items_at old.channels channel))) (fit_taken rules.RecordFits channel old.channels shape.fit)

    pub shape_operates : (meaning : Meaning R K S O) (task number input channel : ℕ) (operator : O) (row : R) (key : Option K) (state : S) (sent : List (ℕ × R)) (new : Held R K S) →
        slice_get graph.tasks task ≡ Some (role.Operator number) → slice_get operators number ≡ Some operator → input_at graph task input ≡ Some channel → slice_get (items_at old.channels channel) 0 ≡ Some (Record row)
        → IsGood rules operator state → All (λ (s : ℕ × R). rules.RecordFits s.1) sent → Operates meaning rules.lang.cmp graph task input channel row key state sent old new → IsShape new
    shape_operates meaning task number input channel operator row key state sent new is op leads head good fits operates =
        let taken : Held R K S = record_taken task input channel row old in
        let first : IsShape taken = shape_puts_out task input channel (role.Operator number) row is leads head in
        let moved : Held R K S = record taken { tasks = slice_set old.tasks task (holds.Operator operates.kept) } in
        let second : IsShape moved = shape_task rules graph operators taken first task (role.Operator number) (holds.Operator operates.kept) is (operates.kept, refl) still_good in
        subst IsShape (sym operates.ends)
        (shape_channels rules graph operators moved second new.channels (operates.puts.same_length ∙ refl)
        (fit_puts rules.RecordFits (λ n. map Record (received meaning task sent (slice_get graph.channels n))) (without_head channel old.channels) new.channels
        (λ n. fit_records rules.RecordFits (received meaning task sent (slice_get graph.channels n)) (fit_received rules.RecordFits meaning task sent (slice_get graph.channels n) fits))
        operates.puts second.fit))
      where
        by_test : (b : Bool) (s : S) (other : Option S) → IsGood rules operator state → (other ≡ Some s → IsGood rules operator s) → (if b then Some state else other) ≡ Some s → IsGood rules operator s
        by_test true s other here there e = subst (IsGood rules operator) (same_Some state s e) here
        by_test false s other here there e = there e

        by_key : (k : Option K) (q : K) (s : S) → (value_at rules.lang.cmp operates.entries q ≡ Some s → IsGood rules operator s) → kept_under meaning.same_key k state (value_at rules.lang.cmp operates.entries) q ≡ Some s → IsGood rules operator s
        by_key None q s was e = was e
        by_key (Some k) q s was e = by_test (meaning.same_key k q) s (value_at rules.lang.cmp operates.entries q) good was e

        still_good : HoldsGood {R = R} rules graph operators (role.Operator number) (holds.Operator operates.kept)
        still_good other o entries q s role_is o_is same value =
            let numbers : number ≡ other = cc in
            let one : o ≡ operator = same_Some o operator (sym o_is ∙ ap (slice_get operators) (sym numbers) ∙ op) in
            let lists : operates.kept ≡ entries = cc in
            subst (λ (x : O). IsGood rules x s) (sym one)
            (by_key key q s (λ was. shape.good task number operator operates.entries q s is op operates.was was) (sym (operates.keeps q) ∙ ap (λ es. value_at rules.lang.cmp es q) lists ∙ value))

    pub shape_copies_source : (task partition offset checkpoint : ℕ) (new : Held R K S) → IsExpanded graph → slice_get graph.tasks task ≡ Some (role.Source partition) → old.coordination.pending ≡ Some checkpoint
        → CopiesSource graph task offset checkpoint old new → IsShape new
    shape_copies_source task partition offset checkpoint new expanded is pending copies =
        subst IsShape (sym copies.ends)
        (shape_channels rules graph operators copied first new.channels copies.sent.same_length
        (fit_puts rules.RecordFits (λ n. barrier_into checkpoint task (slice_get graph.channels n)) old.channels new.channels (λ n. fit_barriers rules.RecordFits checkpoint task (slice_get graph.channels n)) copies.sent shape.fit))
      where
        copied : Held R K S
        copied = record old { copies = slice_set old.copies task (Some (part.Source offset)) }

        within : task < length old.copies
        within = subst (λ n. task < n) (sym shape.copies) (slice_get_within graph.tasks task (role.Source partition) is)

        gate : (t : ℕ) → t < length graph.tasks → GateFits graph copied t
        gate t less =
            elim (eqb_tells t task) [
              | inl same ↦
                  let none : (input number : ℕ) → input_at graph t input ≡ Some number → ⊥ = λ input number leads. no_inputs graph expanded t partition input number (ap (slice_get graph.tasks) same.1 ∙ is) leads in
                  fits_rest graph old t (shape.gate_fits t less) copied refl (rests_without graph old t (shape.gate_fits t less) none) (λ input number leads. absurd (none input number leads))
                  (λ acked e. none-some (part.Source offset) (sym e ∙ ap (copy_at copied) same.1 ∙ copy_set old.copies task (part.Source offset) within))
              | inr other ↦ fits_same graph old t (shape.gate_fits t less) copied refl (copy_beside old.copies task t (part.Source offset) other.1) refl (λ acked. acked) (λ input number leads. refl)
            ]

        first : IsShape copied
        first =
            shape_gates rules graph operators old shape old.gates old.came (slice_set old.copies task (Some (part.Source offset))) checkpoint pending refl refl (set_length old.copies task (Some (part.Source offset))) gate
            (copy_forms_set rules graph operators old shape task (role.Source partition) (part.Source offset) is (offset, refl))

    -- the barrier is noted at the gate, and the task copies or doesn't; the channels stay
    module _ (task input channel checkpoint : ℕ) (r : Role) (is : slice_get graph.tasks task ≡ Some r) (leads : input_at graph task input ≡ Some channel) (barrier : IsBarrierNext old channel checkpoint) where
      abbrev gates_set : List Alignment
      gates_set = slice_set old.gates task (after (effect_of (gate_at old task) input) checkpoint (with_barrier (gate_at old task).inputs input))

      abbrev came_set : List Bool
      came_set = slice_set old.came channel true

      abbrev noted : List (Option (Part R K S)) → Held R K S
      noted copies = record old { gates = gates_set; came = came_set; copies = copies }

      gate_here : gate_at (noted old.copies) task ≡ after (effect_of (gate_at old task) input) checkpoint (with_barrier (gate_at old task).inputs input)
      gate_here =
          ap (λ (o : Option Alignment). unwrap_or o (record { phase = AtRest; inputs = [] }))
          (get_set_same old.gates task (after (effect_of (gate_at old task) input) checkpoint (with_barrier (gate_at old task).inputs input)) (subst (λ n. task < n) (sym shape.gates) (slice_get_within graph.tasks task r is)))

      gate_beside : (t : ℕ) → (t ≡ task → ⊥) → gate_at (noted old.copies) t ≡ gate_at old t
      gate_beside t apart =
          ap (λ (o : Option Alignment). unwrap_or o (record { phase = AtRest; inputs = [] }))
          (get_set_other old.gates task t (after (effect_of (gate_at old task) input) checkpoint (with_barrier (gate_at old task).inputs input)) apart)

      came_here : came_at (noted old.copies) channel ≡ true
      came_here =
          let to : LeadsTo graph task channel = input_leads graph task input channel leads in
          ap (λ (o : Option Bool). unwrap_or o false) (get_set_same old.came channel true (subst (λ n. channel < n) (sym shape.came) (slice_get_within graph.channels channel to.channel to.is)))

      came_beside : (number : ℕ) → (number ≡ channel → ⊥) → came_at (noted old.copies) number ≡ came_at old number
      came_beside number apart = ap (λ (o : Option Bool). unwrap_or o false) (get_set_other old.came channel number true apart)

      gates_noted : (copies : List (Option (Part R K S))) → (is_copy (effect_of (gate_at old task) input) ≡ false → copy_at (noted copies) task ≡ copy_at old task) → (is_copy (effect_of (gate_at old task) input) ≡ true → copy_at (noted copies) task ≢ None)
          → ((t : ℕ) → (t ≡ task → ⊥) → copy_at (noted copies) t ≡ copy_at old t) → (t : ℕ) → t < length graph.tasks → GateFits graph (noted copies) t
      gates_noted copies same_copy new_copy beside t less =
          elim (eqb_tells t task) [
            | inl same ↦
                subst (λ (n : ℕ). GateFits graph (noted copies) n) (sym same.1)
                (fits_barrier graph old task (shape.gate_fits task (slice_get_within graph.tasks task r is)) input channel leads checkpoint barrier.1 barrier.2 (noted copies) gate_here refl came_here came_beside same_copy new_copy)
            | inr other ↦ fits_beside graph old (noted copies) task input channel t leads other.1 (shape.gate_fits t less) (gate_beside t other.1) (beside t other.1) refl came_beside
          ]

      shape_noted : is_copy (effect_of (gate_at old task) input) ≡ false → IsShape (noted old.copies)
      shape_noted no_copy =
          shape_gates rules graph operators old shape gates_set came_set old.copies checkpoint barrier.1
          (set_length old.gates task (after (effect_of (gate_at old task) input) checkpoint (with_barrier (gate_at old task).inputs input))) (set_length old.came channel true) refl
          (gates_noted old.copies (λ e. refl) (λ copy. absurd (true≢false (sym copy ∙ no_copy))) (λ t apart. refl)) shape.copy_forms

      shape_noted_copy : (p : Part R K S) → CopyAs r (Some p) → is_copy (effect_of (gate_at old task) input) ≡ true → IsShape (noted (slice_set old.copies task (Some p)))
      shape_noted_copy p form copy =
          let within : task < length old.copies = subst (λ n. task < n) (sym shape.copies) (slice_get_within graph.tasks task r is) in
          shape_gates rules graph operators old shape gates_set came_set (slice_set old.copies task (Some p)) checkpoint barrier.1
          (set_length old.gates task (after (effect_of (gate_at old task) input) checkpoint (with_barrier (gate_at old task).inputs input))) (set_length old.came channel true) (set_length old.copies task (Some p))
          (gates_noted (slice_set old.copies task (Some p)) (λ no_copy. absurd (true≢false (sym copy ∙ no_copy))) (λ e none. none-some p (sym none ∙ copy_set old.copies task p within)) (λ t apart. copy_beside old.copies task t p apart))
          (copy_forms_set rules graph operators old shape task r p is form)

    -- a barrier is taken without a copy
    pub shape_barrier_taken : (task input channel checkpoint : ℕ) (r : Role) → slice_get graph.tasks task ≡ Some r → input_at graph task input ≡ Some channel → IsBarrierNext old channel checkpoint
        → is_copy (effect_of (gate_at old task) input) ≡ false → IsShape (barrier_taken task input channel checkpoint old)
    shape_barrier_taken task input channel checkpoint r is leads barrier no_copy =
        shape_channels rules graph operators (noted task input channel checkpoint r is leads barrier old.copies) (shape_noted task input channel checkpoint r is leads barrier no_copy) (without_head channel old.channels)
        (set_length old.channels channel (drop 1 (items_at old.channels channel))) (fit_taken rules.RecordFits channel old.channels shape.fit)

    pub shape_copies_operator : (task number input channel checkpoint : ℕ) (new : Held R K S) → slice_get graph.tasks task ≡ Some (role.Operator number) → input_at graph task input ≡ Some channel → IsBarrierNext old channel checkpoint
        → is_copy (effect_of (gate_at old task) input) ≡ true → CopiesOperator graph task input channel checkpoint old new → IsShape new
    shape_copies_operator task number input channel checkpoint new is leads barrier copy copies =
        let p : Part R K S = part.Operator copies.entries [] in
        let first : IsShape (noted task input channel checkpoint (role.Operator number) is leads barrier (slice_set old.copies task (Some p))) = shape_noted_copy task input channel checkpoint (role.Operator number) is leads barrier p (copies.entries, refl) copy in
        subst IsShape (sym copies.ends)
        (shape_channels rules graph operators (noted task input channel checkpoint (role.Operator number) is leads barrier (slice_set old.copies task (Some p))) first new.channels
        (copies.sent.same_length ∙ set_length old.channels channel (drop 1 (items_at old.channels channel)))
        (fit_puts rules.RecordFits (λ n. barrier_into checkpoint task (slice_get graph.channels n)) (without_head channel old.channels) new.channels (λ n. fit_barriers rules.RecordFits checkpoint task (slice_get graph.channels n)) copies.sent
        (fit_taken rules.RecordFits channel old.channels shape.fit)))

    pub shape_sink_copied : (task subtask input channel checkpoint : ℕ) (names : List ℕ) (sink : Sinking) → slice_get graph.tasks task ≡ Some (role.Sink subtask) → input_at graph task input ≡ Some channel → IsBarrierNext old channel checkpoint
        → is_copy (effect_of (gate_at old task) input) ≡ true → IsShape (sink_copied task input channel checkpoint names sink old)
    shape_sink_copied task subtask input channel checkpoint names sink is leads barrier copy =
        let p : Part R K S = part.Sink names [] in
        let copied : Held R K S = noted task input channel checkpoint (role.Sink subtask) is leads barrier (slice_set old.copies task (Some p)) in
        let first : IsShape copied = shape_noted_copy task input channel checkpoint (role.Sink subtask) is leads barrier p (names, refl) copy in
        let taken : Held R K S = record copied { channels = without_head channel old.channels } in
        let second : IsShape taken =
        shape_channels rules graph operators copied first (without_head channel old.channels) (set_length old.channels channel (drop 1 (items_at old.channels channel))) (fit_taken rules.RecordFits channel old.channels shape.fit) in
        shape_task rules graph operators taken second task (role.Sink subtask) (holds.Sink sink) is (sink, refl) (sink_good sink (role.Sink subtask))

    pub shape_forgotten : (task subtask : ℕ) (sink : Sinking) → slice_get graph.tasks task ≡ Some (role.Sink subtask) → IsShape (oldest_forgotten task sink old)
    shape_forgotten task subtask sink is =
        let less : Sinking = record sink { pending = drop 1 sink.pending } in
        shape_task rules graph operators old shape task (role.Sink subtask) (holds.Sink less) is (less, refl) (sink_good less (role.Sink subtask))

    pub shape_started : (checkpoint : ℕ) → old.coordination.pending ≡ None → IsShape (with_started checkpoint old)
    shape_started checkpoint none =
        shape_cleared rules graph operators old shape (started old.coordination checkpoint) (replicate_length (length old.coordination.acked) false)
        (λ t less. rests_unpending graph old t (shape.gate_fits t less) none) (λ t acked. true≢false (sym acked ∙ index_replicate (length old.coordination.acked) t false))

    pub shape_completed : (checkpoint : ℕ) → IsReady old.coordination → IsShape (with_completed checkpoint old)
    shape_completed checkpoint ready =
        shape_cleared rules graph operators old shape (completed old.coordination checkpoint) refl
        (λ t less. ((shape.gate_fits t less).acknowledged (ready_acked old.coordination ready t (subst (λ n. t < n) (sym shape.acked) less))).1) (λ t acked. true≢false (sym acked))

    -- the task has copied, and its gate is at rest
    pub shape_acknowledged : (task : ℕ) (p : Part R K S) → copy_at old task ≡ Some p → (gate_at old task).phase ≡ AtRest → IsShape (with_acknowledged task old)
    shape_acknowledged task p copied rest =
        shape_coordination rules graph operators old shape (acknowledged old.coordination task) (set_length old.coordination.acked task true) refl
        (λ t less. elim (eqb_tells t task) [
          | inl same ↦
              let at_rest : (gate_at old t).phase ≡ AtRest = ap (λ (n : ℕ). (gate_at old n).phase) same.1 ∙ rest in
              fits_rest graph old t (shape.gate_fits t less) (with_acknowledged task old) refl at_rest
              (subst (λ (q : Phase). StandsAs graph old t q (gate_at old t).inputs) at_rest (shape.gate_fits t less).stands) (λ acked e. none-some p (sym e ∙ ap (copy_at old) same.1 ∙ copied))
          | inr other ↦
              fits_same graph old t (shape.gate_fits t less) (with_acknowledged task old) refl refl refl
              (λ acked. ap (λ (b : Bool). is_some old.coordination.pending && b) (sym (index_set_other old.coordination.acked task t true false other.1)) ∙ acked) (λ input number leads. refl)
        ])
