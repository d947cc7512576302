use Rattle.engine_plain.proofs.PlainReached.{stand_for_one}
use Rattle.engine_plain.proofs.engines_stand_for_one.Goals as goal

pub returns : goal.returns
returns g c = λ lang s one other once a b. stand_for_one lang s one other once a b
