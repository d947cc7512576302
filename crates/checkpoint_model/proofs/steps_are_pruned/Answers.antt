use Rattle.checkpoint_model.proofs.PrunedSteps.{steps_pruned}
use Rattle.checkpoint_model.proofs.steps_are_pruned.Goals as goal

pub returns : goal.returns
returns g c = λ job spell. steps_pruned job spell
