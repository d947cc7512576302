use Rattle.engine_lines.proofs.LineRuns.{lines_apply}
use Rattle.engine_lines.proofs.lines_apply.Goals as goal

pub returns : goal.returns
returns g c = λ job. lines_apply job
