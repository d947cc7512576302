use Rattle.std.proofs.Common.{◌∙◌}
use Rattle.keyed_state.proofs.keyed_map.KeyedState.encode.Goals as goal

pub returns-clause-appended : goal.returns-clause-appended
returns-clause-appended g c = rw (← (c.in_ok-map.ensures ∙ c.in_ok-table.ensures)) c.encode.ensures.appended
