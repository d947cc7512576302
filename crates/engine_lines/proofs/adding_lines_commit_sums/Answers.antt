use Rattle.engine_model.specs.ByTests.{rules_by}
use Rattle.engine_lines.proofs.Lines.{commits_sums}
use Rattle.engine_lines.proofs.adding_lines_commit_sums.Goals as goal

pub returns : goal.returns
returns c = λ lang tests s n meaning runs. commits_sums (rules_by lang tests) s n meaning runs
