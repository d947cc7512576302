use Rattle.std.proofs.Common.{refl}
use Rattle.engine_lines.proofs.Lines.{commits_sums}
use Rattle.engine.proofs.rows.Engine+RowOp+S+X+P.lines_commit_sums.Goals as goal

pub returns : goal.returns
returns g c = rw (← c.self.view_is) (λ fresh line n is. commits_sums _ _ n refl (record { keeps = c.self.invariant; fresh = fresh; line = line; operator_is = is }))
