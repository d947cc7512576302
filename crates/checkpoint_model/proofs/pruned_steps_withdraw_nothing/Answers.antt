use Rattle.checkpoint_model.proofs.Pruned.{pruned_withdraws}
use Rattle.checkpoint_model.proofs.pruned_steps_withdraw_nothing.Goals as goal

pub returns : goal.returns
returns g c = λ job spell. pruned_withdraws job spell
