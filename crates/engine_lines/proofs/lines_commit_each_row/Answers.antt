use Rattle.engine_model.specs.ByTests.{rules_by}
use Rattle.engine_lines.proofs.Lines.{commits_each}
use Rattle.engine_lines.proofs.lines_commit_each_row.Goals as goal

pub returns : goal.returns
returns g c = λ lang tests s operator f runs one. commits_each (rules_by lang tests) s operator runs f one
