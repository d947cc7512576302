use Rattle.engine_model.specs.ByTests.{rules_by}
use Rattle.engine_lines.proofs.Lines.{commits_made}
use Rattle.engine_lines.proofs.lines_commit_what_operators_make.Goals as goal

pub returns : goal.returns
returns g c = λ lang tests s operator runs. commits_made (rules_by lang tests) s operator runs
