use Rattle.std.proofs.Common.{ap, ◌∙◌}
use Rattle.job_state.proofs.Holds.{on_ok}
use Rattle.job_state.proofs.copies.spell_states.Goals as goal

pub returns-clause-spelled : goal.returns-clause-spelled
returns-clause-spelled g c = on_ok c.spell_logs.result (λ all copy is. all copy (ap (λ states. states.copy) c.in_ok-spell_some.ensures.ok ∙ is)) c.spell_logs.ensures.ok
