use Rattle.checkpoint_model.proofs.Cuts.{restarts_reached}
use Rattle.checkpoint_model.proofs.restarts_are_reached.Goals as goal

pub returns : goal.returns
returns g c = λ job spell. restarts_reached job spell
