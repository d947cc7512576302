use Rattle.std.proofs.Common.{◌≡◌}
use Rattle.dataflow_core.specs.Steps.{Preserves}
use Rattle.thread_runner.proofs.station.Station.choose_some.Given as goal
use Rattle.engine_model.proofs.RulesOf.{rules_of}

abbrev pub invariant-loop : goal.invariant-loop
invariant-loop g l = record {
  total : l.self.total ≡ l.fn.self.total;
  step : Preserves (rules_of g.O.Operator g.O.Key.Ord g.O.Record.Codec g.O.Key.Codec g.O.State.Codec) l.fn.self.core.engine l.self.core.engine;
}
