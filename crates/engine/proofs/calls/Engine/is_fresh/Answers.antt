use Rattle.engine_model.proofs.Calls.Exact.{keeps_rows_exact}
use Rattle.engine_lines.proofs.Lines.{commits_made}
use Rattle.engine_model.proofs.Sounds.{fresh_is_sound}
use Rattle.engine.proofs.calls.Engine.is_fresh.Goals as goal

pub returns-clause-exact : goal.returns-clause-exact
returns-clause-exact g c = rw (← c.self.view_is) (λ fresh. keeps_rows_exact _ _ c.self.invariant fresh)

pub returns-clause-line : goal.returns-clause-line
returns-clause-line g c = rw (← c.self.view_is) (λ fresh operator line is. commits_made _ _ operator (record { keeps = c.self.invariant; fresh = fresh; line = line; operator_is = is }))

pub returns-clause-sound : goal.returns-clause-sound
returns-clause-sound g c = rw (← c.self.view_is) (λ fresh. fresh_is_sound _ _ c.self.invariant fresh)

pub returns-clause-kept : goal.returns-clause-kept
returns-clause-kept g c = rw (← c.self.view_is) c.self.invariant
