use Rattle.std.proofs.Common.{rules}
use Rattle.operators.proofs.Refusals.{only_memory}
use Rattle.operators.proofs.row_table.write_number.Goals as goal

pub returns-clause-memory : goal.returns-clause-memory
returns-clause-memory c = only_memory _ c.write.result (search rules) c.write.ensures.too_long
