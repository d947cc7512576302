-- An operator works several records, one after another.
use Rattle.std.proofs.Common.{◌≡◌, Some, Ok, slice_get, length, ℕ, List, [], ◌∷◌, refl, sym, subst, arith}
use Rattle.job_graph.specs.Expanded.{Expanded}
use Rattle.job_graph.specs.declared.role.Role.TheVariants as role
use Rattle.job_state.specs.Held.{Held}
use Rattle.engine_model.specs.AllRules.{AllRules}
use Rattle.engine_model.specs.Batch.{OperatesOn}
use Rattle.engine_model.specs.Calls.{input_at, OperatesNext}
use Rattle.engine_model.specs.Keeps.{Keeps}
use Rattle.engine_model.specs.Language.{Language}
use Rattle.engine_model.specs.State.{State}
use Rattle.engine_model.proofs.Calls.Goes.{KeepsAndGoes}
use Rattle.engine_model.proofs.Calls.Goes as calls
use Rattle.engine_model.proofs.Calls.Operates.{GoesOn, keeps_operate}
use Rattle.engine_model.proofs.Calls.Steps.{after, keeps_still}

module _ {R K S O : Type 0} (rules : AllRules R K S O) (n task number input channel : ℕ) (operator : O) (goes_on : GoesOn rules operator) where
  -- What every engine keeps is kept, and the engine goes there by steps of the model's engine.
  pub keeps_operates_on : (rows : List R) (s : State O R K S) (h k : Held R K S) → Keeps rules s → s.held ≡ Some h → slice_get s.graph.tasks task ≡ Some (role.Operator number)
      → slice_get s.operators number ≡ Some operator → input_at s.graph task input ≡ Some channel → OperatesOn rules.lang operator s.graph task input channel rows h k → KeepsAndGoes rules s (after rules.lang s s.ledger (Some k) n)
  keeps_operates_on [] s h k keeps was at_task op leads same = keeps_still rules s keeps h was k n same
  keeps_operates_on (row ∷ rows) s h k keeps was at_task op leads e =
      let middle : State O R K S = after rules.lang s s.ledger (Some e.0) n in
      let first : KeepsAndGoes rules s middle = keeps_operate rules s h e.0 n task number input channel operator keeps was at_task op goes_on leads (Ok tt) e.1 in
      let rest = keeps_operates_on rows middle e.0 k first.0 refl at_task op leads e.3 in
      (rest.0, calls.goes_on rules.lang s (Some e.0) s.stored s.ledger n (after rules.lang s s.ledger (Some k) n) first.1 rest.1)

-- one record is one step
module _ {R K S O : Type 0} (lang : Language R K S O) (operator : O) (graph : Expanded) (task input channel : ℕ) (h k : Held R K S) where
  pub operates_once : (rows : List R) → length rows ≡ 1 → OperatesOn lang operator graph task input channel rows h k → OperatesNext graph task h k input channel lang operator
  operates_once [] one e = absurd (omega arith)
  operates_once (row ∷ []) one e = subst (λ (x : Held R K S). OperatesNext graph task h x input channel lang operator) (sym e.3) e.1
  operates_once (row ∷ other ∷ rows) one e = absurd (omega arith)
