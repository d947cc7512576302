use Rattle.checkpoint_model.proofs.PrunedRuns.{bare_is_one}
use Rattle.checkpoint_model.proofs.bare_is_one.Goals as goal

pub returns : goal.returns
returns g c = λ job spell. bare_is_one job spell
