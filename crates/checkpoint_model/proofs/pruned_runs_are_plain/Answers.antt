use Rattle.checkpoint_model.proofs.PrunedRuns.{runs_are_plain}
use Rattle.checkpoint_model.proofs.pruned_runs_are_plain.Goals as goal

pub returns : goal.returns
returns g c = λ job spell. runs_are_plain job spell
