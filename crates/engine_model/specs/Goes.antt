-- Steps of an engine's data are steps of the model's engine.
use Rattle.std.specs.Prelude.{ℕ, List}
use Rattle.checkpoint_model.specs.Headline.{Engine}
use Rattle.checkpoint_model.specs.Pruned.{PrunedLeads}
use Rattle.checkpoint_model.specs.PrunedLaws.{pruned_engine}
use Rattle.engine_model.specs.Language.{Language}
use Rattle.engine_model.specs.State.{State}
use Rattle.engine_model.specs.View.{job_of, is_logged_in, engine_of}

module _ {R K S O : Type 0} where
  -- The engine goes from one to the other by steps of the model's engine, as it is held.
  abbrev pub Goes : Language R K S O → State O R K S → State O R K S → Type 0
  Goes lang old new =
      (engines : List (Engine R K S (List ℕ))) × PrunedLeads (job_of lang old) (is_logged_in old) lang.spelling (pruned_engine (engine_of lang old)) engines (pruned_engine (engine_of lang new))
