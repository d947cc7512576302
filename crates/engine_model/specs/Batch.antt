-- Several records of one input that an operator works, each in a step of its own.
use Rattle.std.specs.Prelude.{◌≡◌, ℕ, List, [], ◌∷◌}
use Rattle.job_graph.specs.Expanded.{Expanded}
use Rattle.job_state.specs.Batch.{StandFirst}
use Rattle.job_state.specs.Held.{Held}
use Rattle.engine_model.specs.Calls.{IsBlocked, OperatesNext}
use Rattle.engine_model.specs.Language.{Language}

-- the input is free, and these records stand first
abbrev pub AreRecordsDue : {R K S : Type 0} → ℕ → ℕ → Held R K S → ℕ → List R → Type 0
AreRecordsDue task input h channel rows = ¬ IsBlocked task input h × StandFirst channel rows h

module _ {R K S O : Type 0} (lang : Language R K S O) (operator : O) (graph : Expanded) (task input channel : ℕ) where
  -- the operator works these records of an input, which is this channel, in so many steps
  abbrev pub OperatesOn : List R → Held R K S → Held R K S → Type 0
  OperatesOn [] old new = new ≡ old
  OperatesOn (row ∷ rows) old new =
      (next : Held R K S) × (step : OperatesNext graph task old next input channel lang operator) × (step.row ≡ row) × OperatesOn rows next new
