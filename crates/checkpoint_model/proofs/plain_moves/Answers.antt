use Rattle.checkpoint_model.proofs.PrunedPlain.{plain_moves}
use Rattle.checkpoint_model.proofs.plain_moves.Goals as goal

pub returns : goal.returns
returns g c = λ job spell. plain_moves job spell
