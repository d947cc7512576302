use Rattle.engine_lines.proofs.LineCommits.{logged_lines_commit}
use Rattle.engine_lines.proofs.logged_lines_commit_beginnings.Goals as goal

pub returns : goal.returns
returns g c = λ job spell. logged_lines_commit job spell
