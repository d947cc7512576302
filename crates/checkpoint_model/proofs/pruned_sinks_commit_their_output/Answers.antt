use Rattle.checkpoint_model.proofs.PrunedReached.{pruned_sinks_commit}
use Rattle.checkpoint_model.proofs.pruned_sinks_commit_their_output.Goals as goal

pub returns : goal.returns
returns g c = λ job spell. pruned_sinks_commit job spell
