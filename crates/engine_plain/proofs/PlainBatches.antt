-- An operator that works several records makes as many plain steps.
use Rattle.std.proofs.Common.{◌≡◌, Some, Result, Ok, Err, slice_get, length, ℕ, List, [], ◌∷◌, refl, subst}
use Rattle.dataflow_model.specs.Machine.{Move, Work}
use Rattle.job_graph.specs.declared.role.Role.TheVariants as role
use Rattle.job_state.specs.Held.{Held}
use Rattle.engine_model.specs.AllRules.{AllRules}
use Rattle.engine_model.specs.Batch.{OperatesOn}
use Rattle.engine_model.specs.Calls.{input_at}
use Rattle.engine_model.specs.Keeps.{Keeps}
use Rattle.engine_model.specs.Language.{Language}
use Rattle.engine_model.specs.State.{State}
use Rattle.engine_model.specs.declared.fault.CoreFault.{CoreFault}
use Rattle.engine_model.proofs.Calls.Goes.{KeepsAndGoes}
use Rattle.engine_model.proofs.Calls.Operates.{GoesOn, keeps_operate}
use Rattle.engine_model.proofs.Calls.Steps.{after}
use Rattle.engine_plain.specs.Plain.{StandsFor, StepsBy, StepsOften, StepsIfOk, StepsOftenIfOk}
use Rattle.engine_plain.proofs.PlainWorks.{plain_operate}
use Rattle.engine_plain.proofs.Stands.{stays_refused}

module _ {R K S O : Type 0} (lang : Language R K S O) (move : Move) (old new : State O R K S) where
  -- one step is one of a list
  pub often_once : StepsBy lang move old new → StepsOften 1 lang move old new
  often_once steps at stands =
      let one = steps at stands in
      (one.0, (one.0, one.1, refl), one.2)

  pub once_often : StepsOften 1 lang move old new → StepsBy lang move old new
  once_often often at stands =
      let all = often at stands in
      (all.1.0, all.1.1, subst (StandsFor lang new) all.1.2 all.2)

  pub often_once_if_ok : {T : Type 0} (result : Result T CoreFault) → StepsIfOk result lang move old new → StepsOftenIfOk result 1 lang move old new
  often_once_if_ok (Ok v) steps = often_once steps
  often_once_if_ok (Err fault) stays = stays

module _ {R K S O : Type 0} (rules : AllRules R K S O) (n task number input channel : ℕ) (operator : O) (goes_on : GoesOn rules operator) where
  pub plain_operates_on : (rows : List R) (s : State O R K S) (h k : Held R K S) → Keeps rules s → s.held ≡ Some h → slice_get s.graph.tasks task ≡ Some (role.Operator number)
      → slice_get s.operators number ≡ Some operator → input_at s.graph task input ≡ Some channel → OperatesOn rules.lang operator s.graph task input channel rows h k → StepsOften (length rows) rules.lang (Work task channel) s (after rules.lang s s.ledger (Some k) n)
  plain_operates_on [] s h k keeps was at_task op leads same at stands = (at, refl, stays_refused rules.lang s h was k s.stored s.ledger n same refl at stands)
  plain_operates_on (row ∷ rows) s h k keeps was at_task op leads e at stands =
      let middle : State O R K S = after rules.lang s s.ledger (Some e.0) n in
      let kept : KeepsAndGoes rules s middle = keeps_operate rules s h e.0 n task number input channel operator keeps was at_task op goes_on leads (Ok tt) e.1 in
      let steps : StepsBy rules.lang (Work task channel) s middle = plain_operate rules s h e.0 n task number input channel operator keeps was at_task op leads (Ok tt) e.1 in
      let first = steps at stands in
      let rest = plain_operates_on rows middle e.0 k kept.0 refl at_task op leads e.3 first.0 first.2 in
      (rest.0, (first.0, first.1, rest.1), rest.2)
