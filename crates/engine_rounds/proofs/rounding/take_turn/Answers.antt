use Rattle.engine_rounds.proofs.Taking.{idle_turn}
use Rattle.engine_model.proofs.RulesOf.{rules_of}
use Rattle.engine_rounds.proofs.rounding.take_turn.Goals as goal

pub returns-in-Ok-false-clause-ends : goal.returns-in-Ok-false-clause-ends
returns-in-Ok-false-clause-ends g c =
    idle_turn (rules_of g.O.Operator g.O.Key.Ord g.O.Record.Codec g.O.Key.Codec g.O.State.Codec) c.args.engine.now c.turn.new.engine c.args.task c.args.left.now c.in-Ok-false.field-0
    c.requires.running c.in-Ok-false.field-0-test c.in-Ok-false.ensures.ends
