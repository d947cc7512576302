use Rattle.engine_lines.proofs.Along.{one_for_each}
use Rattle.engine_lines.proofs.one_for_each.Goals as goal

pub returns : goal.returns
returns g c = λ meaning. one_for_each meaning
