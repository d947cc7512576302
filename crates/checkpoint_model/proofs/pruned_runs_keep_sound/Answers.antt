use Rattle.checkpoint_model.proofs.PrunedReached.{pruned_runs_sound}
use Rattle.checkpoint_model.proofs.pruned_runs_keep_sound.Goals as goal

pub returns : goal.returns
returns g c = λ job spell. pruned_runs_sound job spell
