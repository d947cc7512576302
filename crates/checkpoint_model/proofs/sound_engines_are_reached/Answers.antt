use Rattle.checkpoint_model.proofs.PrunedReached.{sound_reached}
use Rattle.checkpoint_model.proofs.sound_engines_are_reached.Goals as goal

pub returns : goal.returns
returns g c = λ job spell. sound_reached job spell
