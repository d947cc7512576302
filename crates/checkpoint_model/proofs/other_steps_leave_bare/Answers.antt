use Rattle.checkpoint_model.proofs.PrunedPlain.{others_stay}
use Rattle.checkpoint_model.proofs.other_steps_leave_bare.Goals as goal

pub returns : goal.returns
returns g c = λ job spell. others_stay job spell
