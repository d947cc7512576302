-- A source's records are read in turn.
use Rattle.std.proofs.Common.{◌≡◌, ◌≢◌, ◌<◌, ◌+◌, ◌⊎◌, inl, inr, arith, Option, Some, None, Result, Ok, Err, MatchOption, ℕ, zero, suc, List, replicate, refl, sym, ap, subst, ◌∙◌}
use Rattle.dataflow_model.specs.Machine.{Reaches, Read}
use Rattle.job_graph.specs.Expanded.{Expanded}
use Rattle.job_state.specs.Held.{Held}
use Rattle.engine_model.specs.AllRules.{AllRules}
use Rattle.engine_model.specs.Calls.{EndsRead, left_by}
use Rattle.engine_model.specs.Keeps.{Keeps}
use Rattle.engine_model.specs.State.{State}
use Rattle.engine_model.specs.View.{job_of}
use Rattle.engine_model.specs.declared.fault.CoreFault.{CoreFault}
use Rattle.engine_model.specs.declared.fault.CoreFault.TheVariants.{Device}
use Rattle.engine_model.proofs.Calls.Goes as calls
use Rattle.engine_model.proofs.Calls.Goes.{KeepsAndGoes}
use Rattle.engine_model.proofs.Calls.Reads.{keeps_read}
use Rattle.engine_model.proofs.Calls.Steps.{keeps_still}
use Rattle.engine_moves.specs.Reading.{ReadsInTurn}
use Rattle.engine_plain.specs.Plain.{StandsFor, StepsBy, Stays}
use Rattle.engine_plain.proofs.PlainReads.{plain_read}
use Rattle.engine_plain.proofs.Stands.{stays_same}
use Rattle.engine.specs.Claimed.{StepsSoMany}
use Rattle.engine.specs.Running.{IsCounted}
use Rattle.engine.proofs.Counting.{read_counted}

no_fault : (fault : CoreFault) → ◌≡◌ {A = Result Unit CoreFault} (Ok tt) (Err fault) → ⊥
no_fault fault e = cc

module _ {R K S O : Type 0} (rules : AllRules R K S O) (task : ℕ) where
  -- a fault is counted exactly where it is told
  pub turn_counted : (graph : Expanded) (partitions : List (List R)) (a b most : ℕ) (h k : Held R K S) (count : ℕ) (result : Result Unit CoreFault) → ReadsInTurn rules graph task partitions most h k count result → (result ≡ Err Device → a < b) → (result ≢ Err Device → b ≡ a) → IsCounted a b result
  turn_counted graph partitions a b zero h k count result e rises stays = subst (IsCounted a b) (sym e.1) (stays (λ device. no_fault Device (sym e.1 ∙ device)))
  turn_counted graph partitions a b (suc most) h k count result (inl e) rises stays =
      read_counted graph task h k a b rules.lang result partitions (subst (λ (r : Result Unit CoreFault). EndsRead graph task h k rules.lang partitions r) (sym e.2) e.3) rises stays
  turn_counted graph partitions a b (suc most) h k count result (inr e) rises stays = turn_counted graph partitions a b most e.0 k e.1 result e.5 rises stays

  module _ (n : ℕ) where
    -- what the call leaves
    abbrev left : State O R K S → Held R K S → Result Unit CoreFault → State O R K S
    left s k result = record s { held = left_by result (Some k); faults = n }

    -- nothing has changed, and nothing is taken down
    module _ (s : State O R K S) (keeps : Keeps rules s) (h k : Held R K S) (was : s.held ≡ Some h) (same : k ≡ h) (result : Result Unit CoreFault) (up : left_by result (Some k) ≡ Some k) where
      same_kept : KeepsAndGoes rules s (left s k result)
      same_kept = subst (λ (o : Option (Held R K S)). KeepsAndGoes rules s (record s { held = o; faults = n })) (sym up) (keeps_still rules s keeps h was k n same)

      same_stays : Stays rules.lang s (left s k result)
      same_stays =
          let held : left_by result (Some k) ≡ s.held = up ∙ ap Some same ∙ sym was in
          stays_same rules.lang s (record s { held = left_by result (Some k); faults = s.faults }) (λ i. record s { held = held i })

    pub turn_kept : (most : ℕ) (s : State O R K S) (keeps : Keeps rules s) (h k : Held R K S) (was : s.held ≡ Some h) (count : ℕ) (result : Result Unit CoreFault) → ReadsInTurn rules s.graph task s.partitions most h k count result → KeepsAndGoes rules s (left s k result)
    turn_kept zero s keeps h k was count result e = same_kept s keeps h k was e.2 result (ap (λ (r : Result Unit CoreFault). left_by r (Some k)) e.1)
    turn_kept (suc most) s keeps h k was count result (inl e) = subst (λ (r : Result Unit CoreFault). KeepsAndGoes rules s (left s k r)) (sym e.2) (keeps_read rules s h k n task keeps was (Err e.0) tt e.3)
    turn_kept (suc most) s keeps h k was count result (inr e) =
        let middle : State O R K S = record s { held = Some e.0; faults = n } in
        let first : KeepsAndGoes rules s middle = keeps_read rules s h e.0 n task keeps was (Ok tt) e.3 e.4 in
        let then = turn_kept most middle first.0 e.0 k refl e.1 result e.5 in
        (then.0, calls.goes_on rules.lang s (Some e.0) s.stored s.ledger n (left s k result) first.1 then.1)

    pub turn_moves : (most : ℕ) (s : State O R K S) (keeps : Keeps rules s) (h k : Held R K S) (was : s.held ≡ Some h) (count : ℕ) (result : Result Unit CoreFault) → ReadsInTurn rules s.graph task s.partitions most h k count result → StepsSoMany count rules.lang (Read task) s (left s k result)
    turn_moves zero s keeps h k was count result e at stands =
        (at, subst (λ (c : ℕ). Reaches (job_of rules.lang s) (replicate c (Read task)) at at) (sym e.0) refl, same_stays s keeps h k was e.2 result (ap (λ (r : Result Unit CoreFault). left_by r (Some k)) e.1) at stands)
    turn_moves (suc most) s keeps h k was count result (inl e) at stands =
        let stays : Stays rules.lang s (left s k (Err e.0)) = plain_read rules.lang s h k n task was (Err e.0) e.3 in
        (at, subst (λ (c : ℕ). Reaches (job_of rules.lang s) (replicate c (Read task)) at at) (sym e.1) refl, subst (λ (r : Result Unit CoreFault). MatchOption (left_by r (Some k)) (Unit {0}) (λ x. StandsFor rules.lang (left s k r) at)) (sym e.2) (stays at stands))
    turn_moves (suc most) s keeps h k was count result (inr e) at stands =
        let middle : State O R K S = record s { held = Some e.0; faults = n } in
        let kept : KeepsAndGoes rules s middle = keeps_read rules s h e.0 n task keeps was (Ok tt) e.3 e.4 in
        let steps : StepsBy rules.lang (Read task) s middle = plain_read rules.lang s h e.0 n task was (Ok tt) e.4 in
        let first = steps at stands in
        let then = turn_moves most middle kept.0 e.0 k refl e.1 result e.5 first.0 first.2 in
        let all : suc e.1 ≡ count = omega (arith, e.2) in
        (then.0, subst (λ (c : ℕ). Reaches (job_of rules.lang s) (replicate c (Read task)) at then.0) all (first.0, first.1, then.1), then.2)
