use Rattle.engine_lines.proofs.LineCommits.{lines_commit}
use Rattle.engine_lines.proofs.lines_commit_beginnings.Goals as goal

pub returns : goal.returns
returns g c = λ job spell. lines_commit job spell
