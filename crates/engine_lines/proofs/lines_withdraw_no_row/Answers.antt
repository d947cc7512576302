use Rattle.engine_model.specs.ByTests.{rules_by}
use Rattle.engine_lines.proofs.Lines.{withdraws_none}
use Rattle.engine_lines.proofs.lines_withdraw_no_row.Goals as goal

pub returns : goal.returns
returns g c = λ lang tests s new old_keeps new_keeps line same goes. withdraws_none (rules_by lang tests) s new old_keeps new_keeps line same goes
