-- A task works, or takes a barrier, as what it is.
use Rattle.std.proofs.Common.{◌≡◌, ◌<◌, Option, Some, None, Result, MatchOption, slice_get, ℕ, refl, sym, ap, subst, ◌∙◌}
use Rattle.alignment.specs.declared.input.Effect.{Effect}
use Rattle.commit_sink.specs.Ledger.{Ledger, IsOrdered}
use Rattle.dataflow_model.specs.Machine.{Work}
use Rattle.job_graph.specs.declared.role.Role.{Role}
use Rattle.job_graph.specs.declared.role.Role.TheVariants as role
use Rattle.job_state.specs.Held.{Held}
use Rattle.engine_model.proofs.Numbers.{operator_within}
use Rattle.engine_model.specs.AllRules.{AllRules}
use Rattle.engine_model.specs.Calls.{input_at, left_by}
use Rattle.engine_model.specs.Keeps.{Keeps}
use Rattle.engine_model.specs.State.{State}
use Rattle.engine_model.specs.declared.fault.CoreFault.{CoreFault}
use Rattle.engine_model.proofs.Calls.Barriers.{keeps_operator_barrier}
use Rattle.engine_model.proofs.Calls.Operates.{GoesOn, keeps_operate}
use Rattle.engine_model.proofs.Calls.Persists.{found}
use Rattle.engine_model.proofs.Calls.PutsOut.{keeps_put_out}
use Rattle.engine_model.proofs.Calls.SinkCopies.{keeps_sink_barrier}
use Rattle.engine_model.proofs.Calls.Goes.{KeepsAndGoes}
use Rattle.engine_model.proofs.Calls.Steps.{keeps_still}
use Rattle.engine_plain.specs.Plain.{StepsIfOk, Stays}
use Rattle.engine_plain.proofs.PlainCopies.{plain_operator_barrier, plain_sink_barrier}
use Rattle.engine_plain.proofs.PlainWorks.{plain_operate, plain_put_out}
use Rattle.engine_plain.proofs.Stands.{stays_same}
use Rattle.claims.specs.Tasks.{NoSuchInput, WorksAs, TakesAs, EndsWork, EndsBarrier}

module _ {R K S O : Type 0} (rules : AllRules R K S O) (s : State O R K S) (keeps : Keeps rules s) (h k : Held R K S) (was : s.held ≡ Some h) (ledger : Ledger) where
  -- a task has no such input, whatever was asked of it
  module _ {T : Type 0} (result : Result T CoreFault) (none : NoSuchInput h k s.ledger ledger result) where
    none_kept : (n : ℕ) → KeepsAndGoes rules s (record s { held = left_by result (Some k); ledger = ledger; faults = n })
    none_kept n =
        subst (λ (x : Result T CoreFault). KeepsAndGoes rules s (record s { held = left_by x (Some k); ledger = ledger; faults = n })) (sym none.0)
        (subst (λ (l : Ledger). KeepsAndGoes rules s (record s { held = Some k; ledger = l; faults = n })) (sym none.2) (keeps_still rules s keeps h was k n none.1))

    same_held : left_by result (Some k) ≡ s.held
    same_held = ap (λ (x : Result T CoreFault). left_by x (Some k)) none.0 ∙ ap Some none.1 ∙ sym was

    none_stays : (n : ℕ) → Stays rules.lang s (record s { held = left_by result (Some k); ledger = ledger; faults = n })
    none_stays n = stays_same rules.lang s (record s { held = left_by result (Some k); ledger = ledger; faults = s.faults }) (λ i. record s { held = same_held i; ledger = none.2 i })

  module _ (task input : ℕ) (result : Result Unit CoreFault) where
    -- what the call leaves
    abbrev left : Ledger → ℕ → State O R K S
    left l n = record s { held = left_by result (Some k); ledger = l; faults = n }

    none_steps : NoSuchInput h k s.ledger ledger result → (channel n : ℕ) → StepsIfOk result rules.lang (Work task channel) s (left ledger n)
    none_steps none channel n = subst (λ (x : Result Unit CoreFault). StepsIfOk x rules.lang (Work task channel) s (left ledger n)) (sym none.0) (none_stays result none n)

    module _ (ends : EndsWork rules.lang s.graph s.operators task input h k s.ledger ledger result) where
      pub work_kept : (n : ℕ) → ((operator : O) → GoesOn rules operator) → IsOrdered ledger → KeepsAndGoes rules s (left ledger n)
      work_kept n goes_on ordered = by (slice_get s.graph.tasks task) refl (input_at s.graph task input) refl ends
        where
          by : (r : Option Role) → slice_get s.graph.tasks task ≡ r → (c : Option ℕ) → input_at s.graph task input ≡ c → WorksAs s.graph task input h k s.ledger ledger rules.lang s.operators result r c → KeepsAndGoes rules s (left ledger n)
          by (Some (role.Operator number)) at (Some channel) leads e =
              subst (λ (l : Ledger). KeepsAndGoes rules s (left l n)) (sym e.3) (keeps_operate rules s h k n task number input channel e.0 keeps was at e.1 (goes_on e.0) leads result e.2)
          by (Some (role.Operator number)) at None leads e = none_kept result e n
          by (Some (role.Sink subtask)) at (Some channel) leads e = keeps_put_out rules s h k n task subtask input channel ledger keeps was at ordered leads result e
          by (Some (role.Sink subtask)) at None leads e = none_kept result e n
          by (Some (role.Source partition)) at channel leads e = none_kept result e n
          by None at channel leads e = none_kept result e n

      pub work_is_plain : (n : ℕ) → MatchOption (input_at s.graph task input) (Stays rules.lang s (left ledger n)) (λ channel. StepsIfOk result rules.lang (Work task channel) s (left ledger n))
      work_is_plain n = by (slice_get s.graph.tasks task) refl (input_at s.graph task input) refl ends
        where
          -- nothing is worked, whether there is an input or not
          neither : (c : Option ℕ) → NoSuchInput h k s.ledger ledger result → MatchOption c (Stays rules.lang s (left ledger n)) (λ channel. StepsIfOk result rules.lang (Work task channel) s (left ledger n))
          neither None e = none_stays result e n
          neither (Some channel) e = none_steps e channel n

          by : (r : Option Role) → slice_get s.graph.tasks task ≡ r → (c : Option ℕ) → input_at s.graph task input ≡ c → WorksAs s.graph task input h k s.ledger ledger rules.lang s.operators result r c
              → MatchOption c (Stays rules.lang s (left ledger n)) (λ channel. StepsIfOk result rules.lang (Work task channel) s (left ledger n))
          by (Some (role.Operator number)) at (Some channel) leads e =
              subst (λ (l : Ledger). StepsIfOk result rules.lang (Work task channel) s (left l n)) (sym e.3) (plain_operate rules s h k n task number input channel e.0 keeps was at e.1 leads result e.2)
          by (Some (role.Operator number)) at None leads e = none_stays result e n
          by (Some (role.Sink subtask)) at (Some channel) leads e = plain_put_out rules s h k n task subtask input channel ledger keeps was at leads result e
          by (Some (role.Sink subtask)) at None leads e = none_stays result e n
          by (Some (role.Source partition)) at c leads e = neither c e
          by None at c leads e = neither c e

  -- an operator or a sink takes a barrier
  module _ (task input : ℕ) (result : Result Effect CoreFault) (ends : EndsBarrier s.graph task input h k s.ledger ledger result) where
    -- what the call leaves
    abbrev after_barrier : Ledger → ℕ → State O R K S
    after_barrier l n = record s { held = left_by result (Some k); ledger = l; faults = n }

    pub barrier_kept : (n : ℕ) → IsOrdered ledger → KeepsAndGoes rules s (after_barrier ledger n)
    barrier_kept n ordered = by (slice_get s.graph.tasks task) refl (input_at s.graph task input) refl ends
      where
        by : (r : Option Role) → slice_get s.graph.tasks task ≡ r → (c : Option ℕ) → input_at s.graph task input ≡ c → TakesAs s.graph task input h k s.ledger ledger result r c → KeepsAndGoes rules s (after_barrier ledger n)
        by (Some (role.Operator number)) at (Some channel) leads e =
            let there = found s.operators number (subst (λ m. number < m) (sym keeps.operators) (operator_within s.graph keeps.expanded task number at)) in
            subst (λ (l : Ledger). KeepsAndGoes rules s (after_barrier l n)) (sym e.1) (keeps_operator_barrier rules s h k n task number input channel there.0 keeps was at there.1 leads result e.0)
        by (Some (role.Operator number)) at None leads e = none_kept result e n
        by (Some (role.Sink subtask)) at (Some channel) leads e = keeps_sink_barrier rules s h k n task subtask input channel ledger keeps was at ordered leads result e
        by (Some (role.Sink subtask)) at None leads e = none_kept result e n
        by (Some (role.Source partition)) at channel leads e = none_kept result e n
        by None at channel leads e = none_kept result e n

    pub barrier_stays : Stays rules.lang s (after_barrier ledger s.faults)
    barrier_stays = by (slice_get s.graph.tasks task) refl (input_at s.graph task input) refl ends
      where
        by : (r : Option Role) → slice_get s.graph.tasks task ≡ r → (c : Option ℕ) → input_at s.graph task input ≡ c → TakesAs s.graph task input h k s.ledger ledger result r c → Stays rules.lang s (after_barrier ledger s.faults)
        by (Some (role.Operator number)) at (Some channel) leads e =
            subst (λ (l : Ledger). Stays rules.lang s (after_barrier l s.faults)) (sym e.1) (plain_operator_barrier rules s h k s.faults task keeps was input channel (role.Operator number) at leads result e.0)
        by (Some (role.Operator number)) at None leads e = none_stays result e s.faults
        by (Some (role.Sink subtask)) at (Some channel) leads e = plain_sink_barrier rules s h k s.faults task keeps was input channel subtask ledger at leads result e
        by (Some (role.Sink subtask)) at None leads e = none_stays result e s.faults
        by (Some (role.Source partition)) at channel leads e = none_stays result e s.faults
        by None at channel leads e = none_stays result e s.faults
