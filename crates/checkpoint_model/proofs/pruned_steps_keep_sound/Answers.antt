use Rattle.checkpoint_model.proofs.Pruned.{pruned_sound}
use Rattle.checkpoint_model.proofs.pruned_steps_keep_sound.Goals as goal

pub returns : goal.returns
returns g c = λ job spell. pruned_sound job spell
