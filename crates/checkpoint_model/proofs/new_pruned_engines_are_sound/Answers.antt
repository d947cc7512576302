use Rattle.checkpoint_model.proofs.Pruned.{new_pruned}
use Rattle.checkpoint_model.proofs.new_pruned_engines_are_sound.Goals as goal

pub returns : goal.returns
returns g c = λ job spell. new_pruned job spell
