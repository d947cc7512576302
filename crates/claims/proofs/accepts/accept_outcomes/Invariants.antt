use Rattle.claims.specs.Carried.{turns_given}
use Rattle.claims.proofs.accepts.accept_outcomes.Given as goal

abbrev pub ghost-operate : goal.ghost-operate
ghost-operate g a = turns_given g.O.Operator.meaning g.O.Key.Ord.cmp a.operand.now
