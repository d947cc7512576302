use Rattle.engine_settling.proofs.Chained.{drain_works}
use Rattle.dataflow_core.proofs.Unclaiming.{step_works}
use Rattle.engine_model.proofs.RulesOf.{rules_of}
use Rattle.dataflow_core.proofs.calls.Core.drain.Goals as goal

pub returns-clause-step : goal.returns-clause-step
returns-clause-step g c =
    rw (← c.self.view_is) (step_works (rules_of g.O.Operator g.O.Key.Ord g.O.Record.Codec g.O.Key.Codec g.O.State.Codec) c.self.inside.engine c.drain.new.engine (drain_works (rules_of g.O.Operator g.O.Key.Ord g.O.Record.Codec g.O.Key.Codec g.O.State.Codec) c.self.inside.engine c.drain.new.engine c.args.turns c.drain.result c.drain.ensures.ends))
