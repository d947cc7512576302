use Rattle.checkpoint_model.proofs.Pruned.{pruned_exact}
use Rattle.checkpoint_model.proofs.pruned_engines_are_exact.Goals as goal

pub returns : goal.returns
returns g c = λ job spell. pruned_exact job spell
