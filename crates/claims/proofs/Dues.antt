-- Which work is due, as the calls find it.
use Rattle.std.proofs.Common.{◌≡◌, ◌<◌, ◌≤◌, ◌↔◌, min, take, map, Option, Some, None, IsTrue, IfSome, IfNone, Ok, slice_get, length, is_some, ℕ, List, refl, sym, ap, subst, ◌∙◌, arith}
use Rattle.std.specs.List.{All}
use Rattle.std.proofs.lemmas.List.{length-take-le}
use Rattle.std.proofs.lemmas.List.Elements.{All-take}
use Rattle.std.proofs.lemmas.Option.{slice_get_within}
use Rattle.abs_codec.specs.Entries.{value_at}
use Rattle.channels.specs.Items.{leading_records}
use Rattle.channels.specs.declared.item.Item.TheVariants.{Record}
use Rattle.commit_sink.specs.Ledger.{Ledger}
use Rattle.job_graph.specs.Expanded.{Expanded, IsExpanded}
use Rattle.job_graph.specs.PlainGraph.{HaveOperators}
use Rattle.job_graph.specs.declared.role.Role.{Role}
use Rattle.job_graph.specs.declared.role.Role.TheVariants as role
use Rattle.job_state.specs.Batch.{Turn, OperatesEach}
use Rattle.job_state.specs.Held.{Held, gate_at}
use Rattle.job_state.specs.Sending.{items_at}
use Rattle.job_state.specs.declared.holding.Holding.TheVariants as holds
use Rattle.engine_model.specs.AllRules.{AllRules, IsGood}
use Rattle.engine_model.specs.Calls.{input_at, IsBlocked, IsRecordDue}
use Rattle.engine_model.specs.Keeps.{GateFits, Shape}
use Rattle.engine_model.proofs.Shape.Gates.{within_gate}
use Rattle.engine_model.proofs.Numbers.{none_past, operator_within}
use Rattle.claims.specs.Carried.{AreStatesOf, IsCarried, IsOperand, turns_given}
use Rattle.claims.specs.Due.{IsOperandDue, EndsOffer, EndsTaking}
use Rattle.claims.specs.declared.parts.Operand.{Operand}
use Rattle.claims.specs.declared.parts.Given.{Given}
use Rattle.claims.specs.declared.parts.Given.TheVariants as given
use Rattle.claims.proofs.InTurn.{worked_in_turn}
use Rattle.claims.proofs.Leading.{leading_fit, leads_first, stand_taken}
use Rattle.claims.proofs.Working.{carried_whole, worked_same}

-- something is found exactly where something is there
pub found_where : (P : ℕ → Type 0) (o : Option ℕ) → IfSome o P → IfNone o ((n : ℕ) → ¬ P n) → IsTrue (is_some o) ↔ ((n : ℕ) × P n)
found_where P None some none = (λ e. absurd cc, λ x. absurd (none x.0 x.1))
found_where P (Some n) some none = (λ e. (n, some), λ x. refl)

-- each operator task has an operator
pub operator_found : {O : Type 0} (graph : Expanded) (operators : List O) → IsExpanded graph → HaveOperators graph operators → (task number : ℕ) → slice_get graph.tasks task ≡ Some (role.Operator number) → slice_get operators number ≡ None → ⊥
operator_found graph operators expanded have task number at none =
    let less = operator_within graph expanded task number at in
    omega (arith, less, have, none_past operators number none)

-- a task's gate has each input of the task
pub within_gates : {R K S : Type 0} (graph : Expanded) (h : Held R K S) → ((t : ℕ) → t < length graph.tasks → GateFits graph h t) → (task input channel : ℕ) (r : Role) → slice_get graph.tasks task ≡ Some r
    → input_at graph task input ≡ Some channel → input < length (gate_at h task).inputs
within_gates graph h gates task input channel r at leads = within_gate graph h task (gates task (slice_get_within graph.tasks task r at)) input channel leads

module _ {R K S O : Type 0} (rules : AllRules R K S O) (graph : Expanded) (operators : List O) (task input : ℕ) (h : Held R K S) (channel : ℕ) where
  -- work that was copied is due
  pub copied_due : (number : ℕ) (entries : List (K × S)) (operator : O) (count : ℕ) (p : Operand O K S R) → slice_get graph.tasks task ≡ Some (role.Operator number) → slice_get operators number ≡ Some operator → input_at graph task input ≡ Some channel
      → ¬ IsBlocked task input h → slice_get h.tasks task ≡ Some (holds.Operator entries) → p.operator ≡ operator → count ≤ length (leading_records (items_at h.channels channel)) → p.rows.items ≡ take count (leading_records (items_at h.channels channel))
      → AreStatesOf rules.lang.cmp entries p.states → IsOperandDue rules.lang graph operators task input h channel p
  copied_due number entries operator count p at op leads free was o within rows same =
      let items = items_at h.channels channel in
      let long : length p.rows.items ≡ count = ap (λ (rs : List R). length rs) rows ∙ length-take-le count (leading_records items) within in
      let stand : take (length p.rows.items) items ≡ map Record p.rows.items = ap (λ n. take n items) long ∙ stand_taken count items within ∙ ap (λ (rs : List R). map Record rs) (sym rows) in
      record {
        number = number;
        entries = entries;
        is_operator = at;
        same_operator = op ∙ ap Some (sym o);
        leads = leads;
        first = (free, stand);
        was = was;
        same_states = same;
      }

  -- all is carried that may be
  pub takes_most : (count most : ℕ) (rows : List R) → 0 < most → count ≡ length (leading_records (items_at h.channels channel)) → rows ≡ take (min count most) (leading_records (items_at h.channels channel)) → length rows ≡ min most (length (leading_records (items_at h.channels channel)))
  takes_most count most rows some all is =
      let long = ap (λ (rs : List R). length rs) is ∙ length-take-le (min count most) (leading_records (items_at h.channels channel)) (omega arith) in
      omega arith

  module _ (number : ℕ) (entries : List (K × S)) (operator : O) (count most : ℕ) (p : Operand O K S R) (row : R) (at : slice_get graph.tasks task ≡ Some (role.Operator number)) (op : slice_get operators number ≡ Some operator) (was : slice_get h.tasks task ≡ Some (holds.Operator entries))
      (due : IsRecordDue task input h channel row) (o : p.operator ≡ operator) (all : count ≡ length (leading_records (items_at h.channels channel))) (some : 0 < most) (rows : p.rows.items ≡ take (min count most) (leading_records (items_at h.channels channel)))
      (carried : IsCarried rules.lang.meaning rules.lang.cmp entries p) where
    -- a record is carried at least
    one_at_least : 0 < length p.rows.items
    one_at_least =
        let lead = leads_first (items_at h.channels channel) row due.1 in
        let long = takes_most count most p.rows.items some all rows in
        omega arith

    -- what is carried is offered
    pub offered : input_at graph task input ≡ Some channel → (work : Given O K S R) → work ≡ given.Operator p → EndsOffer rules.lang graph operators task input h most (Ok work)
    offered leads work is =
        subst (λ (g : Given O K S R). EndsOffer rules.lang graph operators task input h most (Ok g)) (sym is) (
          (channel, copied_due number entries operator (min count most) p at op leads due.0 was o (omega arith) rows carried.same),
          (one_at_least, (channel, leads, takes_most count most p.rows.items some all rows)),
        )

    -- and is whole
    pub offered_whole : Shape rules graph operators h → IsOperand rules p
    offered_whole shape =
        carried_whole rules entries p carried one_at_least (subst (All rules.RecordFits) (sym rows) (All-take rules.RecordFits (min count most) (leading_records (items_at h.channels channel)) (leading_fit rules.RecordFits (items_at h.channels channel) (shape.fit channel))))
        (λ key state found. subst (λ (x : O). IsGood rules x state) (sym o) (shape.good task number operator entries key state at op was found))

  -- what was made of work that is due is what the operator would make, step by step
  pub takes_outcomes : (k : Held R K S) (ledger : Ledger) (p : Operand O K S R) → IsOperandDue rules.lang graph operators task input h channel p → IsOperand rules p
      → OperatesEach rules.lang.meaning rules.lang.cmp graph task input channel (turns_given rules.lang.meaning rules.lang.cmp p) h k → (u : Unit) → EndsTaking rules.lang graph operators task input h k ledger ledger (given.Operator p) (Ok u)
  takes_outcomes k ledger p due whole each u =
      let turns = worked_same rules.lang.meaning rules.lang.cmp p due.entries whole.keyed due.same_states in
      record {
        channel = channel;
        due = due;
        works =
            worked_in_turn rules.lang p.operator graph task input channel p.rows.items (value_at rules.lang.cmp due.entries) due.entries h k due.first.0 due.was refl
            (subst (λ (ts : List (Turn R K S)). OperatesEach rules.lang.meaning rules.lang.cmp graph task input channel ts h k) turns each);
        stays = refl;
      }
