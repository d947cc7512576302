use Rattle.checkpoint_model.proofs.Pruned.{pruned_growth}
use Rattle.checkpoint_model.proofs.pruned_growth_keeps_sound.Goals as goal

pub returns : goal.returns
returns g c = λ job spell. pruned_growth job spell
