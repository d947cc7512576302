use Rattle.checkpoint_model.proofs.Cuts.{last_cuts}
use Rattle.checkpoint_model.proofs.last_cuts_are_reached.Goals as goal

pub returns : goal.returns
returns g c = λ job spell. last_cuts job spell
