-- What a running engine's data stand for is reached by the plain machine, and is one configuration.
use Rattle.std.proofs.Common.{◌≡◌, MatchOption, Option, Some, None, true, List, sym, subst}
use Rattle.checkpoint_model.specs.Headline.{SpellsOnce}
use Rattle.checkpoint_model.specs.Pruned.{pruned_run}
use Rattle.checkpoint_model.proofs.PrunedRuns.{bare_is_one}
use Rattle.dataflow_model.specs.Machine.{Configuration, Move, Reaches, start}
use Rattle.job_state.specs.Held.{Held}
use Rattle.engine_model.specs.AllRules.{AllRules}
use Rattle.engine_model.specs.Keeps.{Keeps}
use Rattle.engine_model.specs.Language.{Language}
use Rattle.engine_model.specs.State.{State}
use Rattle.engine_model.specs.View.{run_of, job_of, devices_of}
use Rattle.engine_model.proofs.Calls.Exact.{keeps_bare}
use Rattle.engine_plain.specs.Plain.{StandsFor}
use Rattle.engine_plain.proofs.Stands.{HoldsFor}

module _ {R K S O : Type 0} (rules : AllRules R K S O) where
  pub plain_reached : (s : State O R K S) (h : Held R K S) → Keeps rules s → s.held ≡ Some h → s.is_fresh ≡ true
      → (moves : List Move) × (at : Configuration R K S) × Reaches (job_of rules.lang s) moves start at × StandsFor rules.lang s at
  plain_reached s h keeps was fresh =
      let b = keeps_bare rules s keeps fresh h was in
      (b.0, b.1, b.2, subst (λ (o : Option (Held R K S)). MatchOption o ⊥ (λ k. HoldsFor rules.lang s k b.1)) (sym was) b.3)

module _ {R K S O : Type 0} (lang : Language R K S O) where
  pub stand_for_one : (s : State O R K S) (one other : Configuration R K S) → SpellsOnce lang.spelling → StandsFor lang s one → StandsFor lang s other → one ≡ other
  stand_for_one s one other once = of s.held
    where
      of : (o : Option (Held R K S)) → MatchOption o ⊥ (λ k. HoldsFor lang s k one) → MatchOption o ⊥ (λ k. HoldsFor lang s k other) → one ≡ other
      of None a b = absurd a
      of (Some h) a b = bare_is_one (job_of lang s) lang.spelling (devices_of lang s) (pruned_run (run_of lang.cmp s.graph h)) one other once a b
