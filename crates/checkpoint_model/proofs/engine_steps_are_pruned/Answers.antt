use Rattle.checkpoint_model.proofs.PrunedSteps.{engine_steps_pruned}
use Rattle.checkpoint_model.proofs.engine_steps_are_pruned.Goals as goal

pub returns : goal.returns
returns g c = λ job spell. engine_steps_pruned job spell
