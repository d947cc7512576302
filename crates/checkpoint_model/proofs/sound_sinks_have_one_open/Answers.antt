use Rattle.checkpoint_model.proofs.PrunedReached.{sound_one_open}
use Rattle.checkpoint_model.proofs.sound_sinks_have_one_open.Goals as goal

pub returns : goal.returns
returns g c = λ job spell. sound_one_open job spell
