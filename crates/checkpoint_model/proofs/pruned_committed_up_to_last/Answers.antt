use Rattle.checkpoint_model.proofs.PrunedReached.{pruned_up_to_last}
use Rattle.checkpoint_model.proofs.pruned_committed_up_to_last.Goals as goal

pub returns : goal.returns
returns g c = λ job spell. pruned_up_to_last job spell
