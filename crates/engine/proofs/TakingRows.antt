-- What was made of a sink's work on several records is taken in turn.
use Rattle.std.proofs.Common.{◌≡◌, ◌≢◌, ◌<◌, ◌+◌, ◌⊎◌, inl, inr, arith, Option, Some, None, Result, Ok, Err, MatchOption, ℕ, zero, suc, List, [], ◌∷◌, replicate, refl, sym, ap, subst, ◌∙◌}
use Rattle.commit_sink.specs.Ledger.{Ledger, IsOrdered}
use Rattle.dataflow_model.specs.Graph.{Job}
use Rattle.dataflow_model.specs.Machine.{Configuration, Move, Reaches, Work}
use Rattle.job_graph.specs.Expanded.{Expanded}
use Rattle.job_state.specs.Held.{Held}
use Rattle.engine_model.specs.AllRules.{AllRules}
use Rattle.engine_model.specs.Calls.{input_at, left_by}
use Rattle.engine_model.specs.Keeps.{Keeps}
use Rattle.engine_model.specs.Language.{Language}
use Rattle.engine_model.specs.State.{State}
use Rattle.engine_model.specs.View.{job_of}
use Rattle.engine_model.specs.declared.fault.CoreFault.{CoreFault}
use Rattle.engine_model.specs.declared.fault.CoreFault.TheVariants.{WrongResult, Device}
use Rattle.engine_model.proofs.Calls.Goes as calls
use Rattle.engine_model.proofs.Calls.Goes.{KeepsAndGoes}
use Rattle.engine_model.proofs.Calls.Operates.{GoesOn}
use Rattle.engine_model.proofs.Calls.Steps.{keeps_still}
use Rattle.engine_plain.specs.Plain.{StandsFor, StepsOften, StepsOftenIfOk, Stays}
use Rattle.engine_plain.proofs.Stands.{stays_refused, stays_same}
use Rattle.claims.specs.Carried.{given_of, records_of}
use Rattle.claims.specs.Due.{EndsAccept}
use Rattle.claims.specs.Rows.{AcceptsInTurn, EndsRows}
use Rattle.claims.specs.declared.parts.Made.{Made}
use Rattle.engine.specs.Claimed.{StepsSoMany}
use Rattle.engine.specs.Running.{IsCounted}
use Rattle.engine.proofs.Accepting.{accept_kept, accept_is_plain, accept_counted}

-- so many steps, and then so many more
reaches_more : {R K S O : Type 0} (job : Job R K S O) (move : Move) (first more : ℕ) (from at to : Configuration R K S) → Reaches job (replicate first move) from at → Reaches job (replicate more move) at to → Reaches job (replicate (first + more) move) from to
reaches_more {R} {K} {S} {O} job move zero more from at to steps others =
    let e : more ≡ 0 + more = omega arith in
    subst (λ (c : ℕ). Reaches job (replicate c move) from to) e (subst (λ (x : Configuration R K S). Reaches job (replicate more move) x to) steps others)
reaches_more job move (suc first) more from at to steps others =
    let e : suc (first + more) ≡ suc first + more = omega arith in
    subst (λ (c : ℕ). Reaches job (replicate c move) from to) e (steps.0, steps.1, reaches_more job move first more steps.0 at to steps.2 others)

no_fault : (fault : CoreFault) → ◌≡◌ {A = Result Unit CoreFault} (Ok tt) (Err fault) → ⊥
no_fault fault e = cc

not_wrong : ◌≡◌ {A = Result Unit CoreFault} (Err WrongResult) (Err Device) → ⊥
not_wrong e = cc

-- a fault is counted exactly where it is told
module _ {R K S O : Type 0} (lang : Language R K S O) (graph : Expanded) (operators : List O) (task input : ℕ) (a b : ℕ) where
  turn_counted : (mades : List (Made O K S R)) (h k : Held R K S) (old new : Ledger) (count : ℕ) (result : Result Unit CoreFault) → AcceptsInTurn lang graph operators task input mades h k old new count result → (result ≡ Err Device → a < b) → (result ≢ Err Device → b ≡ a) → IsCounted a b result
  turn_counted [] h k old new count result e rises stays = subst (IsCounted a b) (sym e.1) (stays (λ device. no_fault Device (sym e.1 ∙ device)))
  turn_counted (made ∷ rest) h k old new count result (inl e) rises stays =
      accept_counted lang graph operators task input h k old new a b made result (subst (λ (r : Result Unit CoreFault). EndsAccept lang graph operators task input h k old new made r) (sym e.2) e.3) rises stays
  turn_counted (made ∷ rest) h k old new count result (inr e) rises stays = turn_counted rest e.0 k e.1 new e.2 result e.6 rises stays

  pub rows_counted : (mades : List (Made O K S R)) (h k : Held R K S) (old new : Ledger) (count : ℕ) (result : Result Unit CoreFault) → EndsRows lang graph operators task input mades h k old new count result → (result ≡ Err Device → a < b) → (result ≢ Err Device → b ≡ a) → IsCounted a b result
  rows_counted mades h k old new count result (inl e) rises stays = turn_counted mades h k old new count result e.2 rises stays
  rows_counted mades h k old new count result (inr e) rises stays = subst (IsCounted a b) (sym e.2) (stays (λ device. not_wrong (sym e.2 ∙ device)))

module _ {R K S O : Type 0} (rules : AllRules R K S O) (task input : ℕ) (goes_on : (operator : O) → GoesOn rules operator) (n : ℕ) where
  -- what the call leaves
  abbrev left : State O R K S → Held R K S → Ledger → Result Unit CoreFault → State O R K S
  left s k ledger result = record s { held = left_by result (Some k); ledger = ledger; faults = n }

  -- nothing has changed, and nothing is taken down
  module _ (s : State O R K S) (keeps : Keeps rules s) (h k : Held R K S) (was : s.held ≡ Some h) (ledger : Ledger) (same : k ≡ h) (same_ledger : ledger ≡ s.ledger) (result : Result Unit CoreFault) (up : left_by result (Some k) ≡ Some k) where
    same_kept : KeepsAndGoes rules s (left s k ledger result)
    same_kept =
        subst (λ (o : Option (Held R K S)). KeepsAndGoes rules s (record s { held = o; ledger = ledger; faults = n })) (sym up)
        (subst (λ (l : Ledger). KeepsAndGoes rules s (record s { held = Some k; ledger = l; faults = n })) (sym same_ledger) (keeps_still rules s keeps h was k n same))

    same_stays : Stays rules.lang s (left s k ledger result)
    same_stays =
        let held : left_by result (Some k) ≡ s.held = up ∙ ap Some same ∙ sym was in
        stays_same rules.lang s (record s { held = left_by result (Some k); ledger = ledger; faults = s.faults }) (λ i. record s { held = held i; ledger = same_ledger i })

    same_steps : (move : Move) (count : ℕ) → count ≡ 0 → StepsSoMany count rules.lang move s (left s k ledger result)
    same_steps move count none at stands = (at, subst (λ (c : ℕ). Reaches (job_of rules.lang s) (replicate c move) at at) (sym none) refl, same_stays at stands)

  turn_kept : (mades : List (Made O K S R)) (s : State O R K S) (keeps : Keeps rules s) (h k : Held R K S) (was : s.held ≡ Some h) (ledger : Ledger) (count : ℕ) (result : Result Unit CoreFault) → IsOrdered ledger
      → AcceptsInTurn rules.lang s.graph s.operators task input mades h k s.ledger ledger count result → KeepsAndGoes rules s (left s k ledger result)
  turn_kept [] s keeps h k was ledger count result ordered e = same_kept s keeps h k was ledger e.2 e.3 result (ap (λ (r : Result Unit CoreFault). left_by r (Some k)) e.1)
  turn_kept (made ∷ rest) s keeps h k was ledger count result ordered (inl e) =
      accept_kept rules s keeps h k was ledger task input made result goes_on n (subst (λ (r : Result Unit CoreFault). EndsAccept rules.lang s.graph s.operators task input h k s.ledger ledger made r) (sym e.2) e.3) ordered
  turn_kept (made ∷ rest) s keeps h k was ledger count result ordered (inr e) =
      let middle : State O R K S = record s { held = Some e.0; ledger = e.1; faults = n } in
      let first : KeepsAndGoes rules s middle = accept_kept rules s keeps h e.0 was e.1 task input made (Ok tt) goes_on n e.5 e.4 in
      let then = turn_kept rest middle first.0 e.0 k refl ledger e.2 result ordered e.6 in
      (then.0, calls.goes_on rules.lang s (Some e.0) s.stored e.1 n (left s k ledger result) first.1 then.1)

  turn_moves : (channel : ℕ) (mades : List (Made O K S R)) (s : State O R K S) (keeps : Keeps rules s) (h k : Held R K S) (was : s.held ≡ Some h) (ledger : Ledger) (count : ℕ) (result : Result Unit CoreFault) → input_at s.graph task input ≡ Some channel
      → AcceptsInTurn rules.lang s.graph s.operators task input mades h k s.ledger ledger count result → StepsSoMany count rules.lang (Work task channel) s (left s k ledger result)
  turn_moves channel [] s keeps h k was ledger count result leads e at stands = same_steps s keeps h k was ledger e.2 e.3 result (ap (λ (r : Result Unit CoreFault). left_by r (Some k)) e.1) (Work task channel) count e.0 at stands
  turn_moves channel (made ∷ rest) s keeps h k was ledger count result leads (inl e) at stands =
      let new = left s k ledger (Err e.0) in
      let moves = accept_is_plain rules s keeps h k was ledger task input made (Err e.0) goes_on n e.3 in
      let stays : Stays rules.lang s new = subst (λ (c : Option ℕ). MatchOption c (Stays rules.lang s new) (λ number. StepsOftenIfOk {T = Unit {0}} (Err e.0) (records_of (given_of made)) rules.lang (Work task number) s new)) leads moves in
      (at, subst (λ (c : ℕ). Reaches (job_of rules.lang s) (replicate c (Work task channel)) at at) (sym e.1) refl, subst (λ (r : Result Unit CoreFault). MatchOption (left_by r (Some k)) (Unit {0}) (λ x. StandsFor rules.lang (left s k ledger r) at)) (sym e.2) (stays at stands))
  turn_moves channel (made ∷ rest) s keeps h k was ledger count result leads (inr e) at stands =
      let middle : State O R K S = record s { held = Some e.0; ledger = e.1; faults = n } in
      let kept : KeepsAndGoes rules s middle = accept_kept rules s keeps h e.0 was e.1 task input made (Ok tt) goes_on n e.5 e.4 in
      let moves = accept_is_plain rules s keeps h e.0 was e.1 task input made (Ok tt) goes_on n e.5 in
      let steps : StepsOften (records_of (given_of made)) rules.lang (Work task channel) s middle = subst (λ (c : Option ℕ). MatchOption c (Stays rules.lang s middle) (λ number. StepsOften (records_of (given_of made)) rules.lang (Work task number) s middle)) leads moves in
      let first = steps at stands in
      let then = turn_moves channel rest middle kept.0 e.0 k refl ledger e.2 result leads e.6 first.0 first.2 in
      (then.0, subst (λ (c : ℕ). Reaches (job_of rules.lang s) (replicate c (Work task channel)) at then.0) (sym e.3) (reaches_more (job_of rules.lang s) (Work task channel) (records_of (given_of made)) e.2 at first.0 then.0 first.1 then.1), then.2)

  module _ (mades : List (Made O K S R)) (s : State O R K S) (keeps : Keeps rules s) (h k : Held R K S) (was : s.held ≡ Some h) (ledger : Ledger) (count : ℕ) (result : Result Unit CoreFault) (ends : EndsRows rules.lang s.graph s.operators task input mades h k s.ledger ledger count result) where
    pub rows_kept : IsOrdered ledger → KeepsAndGoes rules s (left s k ledger result)
    rows_kept ordered = by ends
      where
        by : EndsRows rules.lang s.graph s.operators task input mades h k s.ledger ledger count result → KeepsAndGoes rules s (left s k ledger result)
        by (inl e) = turn_kept mades s keeps h k was ledger count result ordered e.2
        by (inr e) = same_kept s keeps h k was ledger e.3 e.4 result (ap (λ (r : Result Unit CoreFault). left_by r (Some k)) e.2)

    pub rows_move : MatchOption (input_at s.graph task input) (Stays rules.lang s (left s k ledger result)) (λ channel. StepsSoMany count rules.lang (Work task channel) s (left s k ledger result))
    rows_move = by ends
      where
        none : (c : Option ℕ) → count ≡ 0 → Stays rules.lang s (left s k ledger result) → ((channel : ℕ) → StepsSoMany count rules.lang (Work task channel) s (left s k ledger result)) → MatchOption c (Stays rules.lang s (left s k ledger result)) (λ channel. StepsSoMany count rules.lang (Work task channel) s (left s k ledger result))
        none None zero_taken stays steps = stays
        none (Some channel) zero_taken stays steps = steps channel

        by : EndsRows rules.lang s.graph s.operators task input mades h k s.ledger ledger count result → MatchOption (input_at s.graph task input) (Stays rules.lang s (left s k ledger result)) (λ channel. StepsSoMany count rules.lang (Work task channel) s (left s k ledger result))
        by (inl e) =
            subst (λ (c : Option ℕ). MatchOption c (Stays rules.lang s (left s k ledger result)) (λ channel. StepsSoMany count rules.lang (Work task channel) s (left s k ledger result))) (sym (e.1).leads)
            (turn_moves e.0 mades s keeps h k was ledger count result (e.1).leads e.2)
        by (inr e) =
            let up = ap (λ (r : Result Unit CoreFault). left_by r (Some k)) e.2 in
            none (input_at s.graph task input) e.1 (same_stays s keeps h k was ledger e.3 e.4 result up) (λ channel. same_steps s keeps h k was ledger e.3 e.4 result up (Work task channel) count e.1)
