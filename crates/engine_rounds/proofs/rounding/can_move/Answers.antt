use Rattle.engine_model.specs.Language.{language}
use Rattle.engine_rounds.proofs.Idling.{can_move}
use Rattle.engine_rounds.proofs.rounding.can_move.Goals as goal

pub returns-then-has_step-clause-some : goal.returns-then-has_step-clause-some
returns-then-has_step-clause-some g c = λ told.
    can_move (language g.O.Operator.meaning g.O.Key.Ord.cmp g.O.Record.Codec.spelling g.O.Record.Codec.reading g.O.Key.Codec.reading g.O.State.Codec.reading) c.args.engine.now c.loop-task.task (c.has_step.ensures.some c.if-has_step.true)
