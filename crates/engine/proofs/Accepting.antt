-- A result is taken as a task's work, or is refused.
use Rattle.std.proofs.Common.{◌≡◌, ◌≢◌, ◌<◌, ◌⊎◌, inl, inr, Option, Some, None, Result, Ok, Err, MatchOption, ℕ, List, length, refl, sym, ap, subst, ◌∙◌}
use Rattle.commit_sink.specs.Ledger.{Ledger, IsOrdered}
use Rattle.dataflow_model.specs.Machine.{Work}
use Rattle.job_graph.specs.Expanded.{Expanded}
use Rattle.job_state.specs.Held.{Held}
use Rattle.engine_model.specs.AllRules.{AllRules}
use Rattle.engine_model.specs.Calls.{input_at, left_by}
use Rattle.engine_model.specs.Keeps.{Keeps}
use Rattle.engine_model.specs.Language.{Language}
use Rattle.engine_model.specs.State.{State}
use Rattle.engine_model.specs.declared.fault.CoreFault.{CoreFault}
use Rattle.engine_model.specs.declared.fault.CoreFault.TheVariants.{WrongResult, Memory, Device}
use Rattle.engine_model.proofs.Calls.Batches.{keeps_operates_on}
use Rattle.engine_model.proofs.Calls.Goes.{KeepsAndGoes}
use Rattle.engine_model.proofs.Calls.Operates.{GoesOn}
use Rattle.engine_model.proofs.Calls.Steps.{after, keeps_still}
use Rattle.engine_plain.specs.Plain.{StepsIfOk, StepsOften, StepsOftenIfOk, Stays}
use Rattle.engine_plain.proofs.PlainBatches.{plain_operates_on, often_once_if_ok}
use Rattle.engine_plain.proofs.Stands.{stays_same}
use Rattle.claims.specs.Carried.{given_of, records_of}
use Rattle.claims.specs.Due.{WorksRecords, EndsAccept}
use Rattle.claims.specs.Tasks.{EndsWork}
use Rattle.claims.specs.declared.parts.Operand.{Operand}
use Rattle.claims.specs.declared.parts.Given.{Given}
use Rattle.claims.specs.declared.parts.Made.{Made}
use Rattle.claims.specs.declared.parts.Made.TheVariants as made
use Rattle.claims.specs.declared.parts.Given.TheVariants as given
use Rattle.engine.specs.Running.{IsCounted}
use Rattle.engine.proofs.Counting.{work_counted}
use Rattle.engine.proofs.TaskCalls.{work_kept, work_is_plain}

-- nothing has changed: the result was another one's, or memory was refused
abbrev Refuses : {R K S : Type 0} → Held R K S → Held R K S → Ledger → Ledger → Result Unit CoreFault → Type 0
Refuses h k old new result = ((result ≡ Err WrongResult) ⊎ (result ≡ Err Memory)) × (k ≡ h) × (new ≡ old)

module _ {R K S O : Type 0} (lang : Language R K S O) (graph : Expanded) (operators : List O) (task input : ℕ) (h k : Held R K S) (old new : Ledger) where
  -- an operator's records are worked
  abbrev Works : Made O K S R → Result Unit CoreFault → Type 0
  Works m result = (operand : Operand O K S R) × (given_of m ≡ given.Operator operand) × (result ≡ Ok tt) × WorksRecords lang graph operators task input h k old new operand

  -- a sink's one record is put out, or the device failed
  abbrev PutsOne : Made O K S R → Result Unit CoreFault → Type 0
  PutsOne m result = (records_of (given_of m) ≡ 1) × EndsWork lang graph operators task input h k old new result

  -- a result is taken, or refused
  abbrev Either : Made O K S R → Result Unit CoreFault → Type 0
  Either m result = Works m result ⊎ (PutsOne m result ⊎ Refuses h k old new result)

  either : (m : Made O K S R) (result : Result Unit CoreFault) → EndsAccept lang graph operators task input h k old new m result → Either m result
  either (made.Operator solved) (Ok u) e = inl (solved.operand, refl, refl, e)
  either (made.Operator solved) (Err WrongResult) e = inr (inr (inl refl, e.1, e.2))
  either (made.Operator solved) (Err Memory) e = inr (inr (inr refl, e.1, e.2))
  either (made.Operator solved) (Err Device) e = absurd e
  either (made.Operator solved) (Err other) e = absurd e
  either (made.Sink row bytes) (Ok u) e = inr (inl (refl, e.1))
  either (made.Sink row bytes) (Err Device) e = inr (inl (refl, e.1))
  either (made.Sink row bytes) (Err WrongResult) e = inr (inr (inl refl, e.1, e.2))
  either (made.Sink row bytes) (Err Memory) e = inr (inr (inr refl, e.1, e.2))
  either (made.Sink row bytes) (Err other) e = absurd e
  either (made.Refused work) (Err WrongResult) e = inr (inr (inl refl, e.1, e.2))
  either (made.Refused work) (Err Memory) e = inr (inr (inr refl, e.1, e.2))
  either (made.Refused work) other e = absurd e

  pub accept_counted : (a b : ℕ) (m : Made O K S R) (result : Result Unit CoreFault) → EndsAccept lang graph operators task input h k old new m result → (result ≡ Err Device → a < b) → (result ≢ Err Device → b ≡ a) → IsCounted a b result
  accept_counted a b m result ends rises stays = by (either m result ends)
    where
      done : ◌≡◌ {A = Result Unit CoreFault} (Ok tt) (Err Device) → ⊥
      done e = cc

      wrong : ◌≡◌ {A = Result Unit CoreFault} (Err WrongResult) (Err Device) → ⊥
      wrong e = cc

      memory : ◌≡◌ {A = Result Unit CoreFault} (Err Memory) (Err Device) → ⊥
      memory e = cc

      by : Either m result → IsCounted a b result
      by (inl (operand, of, is, e)) = subst (IsCounted a b) (sym is) (stays (λ device. absurd (done (sym is ∙ device))))
      by (inr (inl (one, e))) = work_counted graph task h k a b lang result operators input old new e rises stays
      by (inr (inr (inl is, e, l))) = subst (IsCounted a b) (sym is) (stays (λ device. absurd (wrong (sym is ∙ device))))
      by (inr (inr (inr is, e, l))) = subst (IsCounted a b) (sym is) (stays (λ device. absurd (memory (sym is ∙ device))))

module _ {R K S O : Type 0} (rules : AllRules R K S O) (s : State O R K S) (keeps : Keeps rules s) (h k : Held R K S) (was : s.held ≡ Some h) (ledger : Ledger) (task input : ℕ) (m : Made O K S R) (result : Result Unit CoreFault) where
  -- what the call leaves
  abbrev left : Ledger → ℕ → State O R K S
  left l n = record s { held = left_by result (Some k); ledger = l; faults = n }

  -- a refused result takes nothing down
  refused_held : Refuses h k s.ledger ledger result → left_by result (Some k) ≡ Some k
  refused_held (inl is, e, l) = ap (λ (x : Result Unit CoreFault). left_by x (Some k)) is
  refused_held (inr is, e, l) = ap (λ (x : Result Unit CoreFault). left_by x (Some k)) is

  refused_kept : Refuses h k s.ledger ledger result → (n : ℕ) → KeepsAndGoes rules s (left ledger n)
  refused_kept e n =
      subst (λ (o : Option (Held R K S)). KeepsAndGoes rules s (record s { held = o; ledger = ledger; faults = n })) (sym (refused_held e))
      (subst (λ (l : Ledger). KeepsAndGoes rules s (record s { held = Some k; ledger = l; faults = n })) (sym e.2) (keeps_still rules s keeps h was k n e.1))

  same_held : Refuses h k s.ledger ledger result → left_by result (Some k) ≡ s.held
  same_held e = refused_held e ∙ ap Some e.1 ∙ sym was

  refused_stays : Refuses h k s.ledger ledger result → (n : ℕ) → Stays rules.lang s (left ledger n)
  refused_stays e n = stays_same rules.lang s (record s { held = left_by result (Some k); ledger = ledger; faults = s.faults }) (λ i. record s { held = same_held e i; ledger = e.2 i })

  module _ (goes_on : (operator : O) → GoesOn rules operator) (n : ℕ) where
    -- what is left of records that were worked
    works_left : result ≡ Ok tt → ledger ≡ s.ledger → (P : State O R K S → Type 0) → P (after rules.lang s s.ledger (Some k) n) → P (left ledger n)
    works_left is same P p =
        subst (λ (x : Result Unit CoreFault). P (record s { held = left_by x (Some k); ledger = ledger; faults = n })) (sym is)
        (subst (λ (l : Ledger). P (record s { held = Some k; ledger = l; faults = n })) (sym same) p)

    works_kept : Works rules.lang s.graph s.operators task input h k s.ledger ledger m result → KeepsAndGoes rules s (left ledger n)
    works_kept (operand, of, is, e) =
        works_left is e.stays (λ (x : State O R K S). KeepsAndGoes rules s x)
        (keeps_operates_on rules n task e.due.number input e.channel operand.operator (goes_on operand.operator) operand.rows.items s h k keeps was e.due.is_operator e.due.same_operator e.due.leads e.works)

    -- the plain steps of a call that ends so, by the input's channel
    abbrev Moves : Result Unit CoreFault → Option ℕ → Type 0
    Moves r c = MatchOption c (Stays rules.lang s (left ledger n)) (λ channel. StepsOftenIfOk r (records_of (given_of m)) rules.lang (Work task channel) s (left ledger n))

    works_move : Works rules.lang s.graph s.operators task input h k s.ledger ledger m result → Moves result (input_at s.graph task input)
    works_move (operand, of, is, e) =
        let steps : StepsOften (records_of (given.Operator operand)) rules.lang (Work task e.channel) s (left ledger n) =
        works_left is e.stays (λ (x : State O R K S). StepsOften (length operand.rows.items) rules.lang (Work task e.channel) s x)
        (plain_operates_on rules n task e.due.number input e.channel operand.operator (goes_on operand.operator) operand.rows.items s h k keeps was e.due.is_operator e.due.same_operator e.due.leads e.works) in
        subst (λ (c : Option ℕ). Moves result c) (sym e.due.leads)
        (subst (λ (r : Result Unit CoreFault). Moves r (Some e.channel)) (sym is)
        (subst (λ (g : Given O K S R). StepsOften (records_of g) rules.lang (Work task e.channel) s (left ledger n)) (sym of) steps))

    put_moves : PutsOne rules.lang s.graph s.operators task input h k s.ledger ledger m result → Moves result (input_at s.graph task input)
    put_moves (one, e) = of (input_at s.graph task input) (work_is_plain rules s keeps h k was ledger task input result e n)
      where
        of : (c : Option ℕ) → MatchOption c (Stays rules.lang s (left ledger n)) (λ channel. StepsIfOk result rules.lang (Work task channel) s (left ledger n)) → Moves result c
        of None stays = stays
        of (Some channel) steps = subst (λ (count : ℕ). StepsOftenIfOk result count rules.lang (Work task channel) s (left ledger n)) (sym one) (often_once_if_ok rules.lang (Work task channel) s (left ledger n) result steps)

    -- nothing is worked, whether there is an input or not
    refused_moves : Refuses h k s.ledger ledger result → Moves result (input_at s.graph task input)
    refused_moves e = of (input_at s.graph task input)
      where
        none : (f : CoreFault) (c : Option ℕ) → result ≡ Err f → Moves result c
        none f None is = refused_stays e n
        none f (Some channel) is = subst (λ (r : Result Unit CoreFault). Moves r (Some channel)) (sym is) (refused_stays e n)

        of : (c : Option ℕ) → Moves result c
        of c = elim e.0 [ inl is ↦ none WrongResult c is | inr is ↦ none Memory c is ]

    module _ (ends : EndsAccept rules.lang s.graph s.operators task input h k s.ledger ledger m result) where
      pub accept_kept : IsOrdered ledger → KeepsAndGoes rules s (left ledger n)
      accept_kept ordered = by (either rules.lang s.graph s.operators task input h k s.ledger ledger m result ends)
        where
          by : Either rules.lang s.graph s.operators task input h k s.ledger ledger m result → KeepsAndGoes rules s (left ledger n)
          by (inl e) = works_kept e
          by (inr (inl e)) = work_kept rules s keeps h k was ledger task input result e.1 n goes_on ordered
          by (inr (inr e)) = refused_kept e n

      pub accept_is_plain : Moves result (input_at s.graph task input)
      accept_is_plain = by (either rules.lang s.graph s.operators task input h k s.ledger ledger m result ends)
        where
          by : Either rules.lang s.graph s.operators task input h k s.ledger ledger m result → Moves result (input_at s.graph task input)
          by (inl e) = works_move e
          by (inr (inl e)) = put_moves e
          by (inr (inr e)) = refused_moves e
