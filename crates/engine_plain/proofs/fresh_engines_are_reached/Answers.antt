use Rattle.engine_model.specs.ByTests.{rules_by}
use Rattle.engine_plain.proofs.PlainReached.{plain_reached}
use Rattle.engine_plain.proofs.fresh_engines_are_reached.Goals as goal

pub returns : goal.returns
returns g c = λ lang tests s h runs fresh. plain_reached (rules_by lang tests) s h runs.keeps runs.holds fresh
