use Rattle.engine_rounds.proofs.Resting.{rests}
use Rattle.engine_model.proofs.RulesOf.{rules_of}
use Rattle.engine_rounds.proofs.rounding.idle_engines_rest.Goals as goal

pub returns : goal.returns
returns g c =
    rests (rules_of g.O.Operator g.O.Key.Ord g.O.Record.Codec g.O.Key.Codec g.O.State.Codec) c.args.engine.now c.is_fresh.ensures.kept
