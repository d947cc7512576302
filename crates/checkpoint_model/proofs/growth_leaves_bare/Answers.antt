use Rattle.checkpoint_model.proofs.PrunedRuns.{growth_leaves}
use Rattle.checkpoint_model.proofs.growth_leaves_bare.Goals as goal

pub returns : goal.returns
returns g c = λ job spell. growth_leaves job spell
