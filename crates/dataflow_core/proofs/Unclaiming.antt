-- Calls that make many steps, which want a job that runs, and no claim out.
use Rattle.std.proofs.Common.{◌≡◌, ◌≢◌, ◌⊎◌, inl, inr, Option, Some, None, Result, Err, MatchOption, List, [], refl, ap, subst, sym}
use Rattle.engine_model.specs.AllRules.{AllRules}
use Rattle.engine_model.specs.State.{State}
use Rattle.engine_model.specs.declared.fault.CoreFault.{CoreFault}
use Rattle.engine_model.specs.declared.fault.CoreFault.TheVariants.{NotRunning, Busy}
use Rattle.dataflow_model.specs.Machine.{Move}
use Rattle.engine_rounds.specs.Works.{Works}
use Rattle.engine_rounds.proofs.Many.{works_none}
use Rattle.job_state.specs.Held.{Held}
use Rattle.dataflow_core.specs.CoreState.{CoreState}
use Rattle.dataflow_core.specs.Steps.{IsStep}
use Rattle.dataflow_core.specs.Unclaimed.{Unclaimed}

module _ {R K S O : Type 0} (rules : AllRules R K S O) where
  -- what works is a step,
  pub step_works : (old new : State O R K S) → (moves : List Move) × Works rules moves old new → IsStep rules old new
  step_works old new works =
      let w = works.1 in
      record {
        goes = w.goes;
        sound = w.sound;
        same = (ap (λ (s : State O R K S). s.graph) w.same, ap (λ (s : State O R K S). s.operators) w.same, ap (λ (s : State O R K S). s.is_fresh) w.same);
        begins = w.begins;
      }

  -- and so is nothing
  pub step_none : (old new : State O R K S) → new ≡ old → IsStep rules old new
  step_none old new same = step_works old new ([], works_none rules old new same)

module _ {R K S O : Type 0} {T : Type 0} (old new : CoreState O R K S) (Ends : Result T CoreFault → Type 0) where
  abbrev Matches : Result T CoreFault → Option (Held R K S) → Type 0
  Matches r held = MatchOption held ((r ≡ Err NotRunning) × (new ≡ old)) (λ h. ((old.claims ≢ []) × (r ≡ Err Busy) × (new ≡ old)) ⊎ ((old.claims ≡ []) × Ends r))

  running : (r : Result T CoreFault) (held : Option (Held R K S)) → held ≢ None → ((old.claims ≢ []) × (r ≡ Err Busy) × (new ≡ old)) ⊎ ((old.claims ≡ []) × Ends r) → Matches r held
  running r None some e = absurd (some refl)
  running r (Some h) some e = e

  -- the job is down
  pub while_down : old.engine.held ≡ None → new ≡ old → Unclaimed old new Ends (Err NotRunning)
  while_down none same = subst (Matches (Err NotRunning)) (sym none) (refl, same)

  -- a claim is out
  pub while_claimed : old.engine.held ≢ None → old.claims ≢ [] → new ≡ old → Unclaimed old new Ends (Err Busy)
  while_claimed some claimed same = running (Err Busy) old.engine.held some (inl (claimed, refl, same))

  pub while_free : (r : Result T CoreFault) → old.engine.held ≢ None → old.claims ≡ [] → Ends r → Unclaimed old new Ends r
  while_free r some free e = running r old.engine.held some (inr (free, e))
