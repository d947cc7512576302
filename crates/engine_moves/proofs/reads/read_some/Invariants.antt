use Rattle.std.proofs.Common.{◌≡◌, Some, Ok, slice_get, length}
use Rattle.job_state.specs.declared.holding.Holding.TheVariants as Holding
use Rattle.engine_model.proofs.RulesOf.{rules_of}
use Rattle.engine_moves.specs.Reading.{ReadsInTurn}
use Rattle.engine_moves.proofs.reads.read_some.Given as goal

-- so many are read, and the source holds the offset behind them
abbrev pub invariant-loop-count : goal.invariant-loop-count
invariant-loop-count g l = record {
  holds : slice_get l.attempt.tasks l.task ≡ Some (Holding.Source l.offset);
  channels : length l.attempt.channels ≡ length l.graph.channels;
  reads : ReadsInTurn (rules_of g.O.Operator g.O.Key.Ord g.O.Record.Codec g.O.Key.Codec g.O.State.Codec) l.graph l.task (g.P.Partitions.records l.fn.log) l.count l.fn.attempt l.attempt l.count (Ok tt);
  same : g.P.Partitions.records l.log ≡ g.P.Partitions.records l.fn.log;
  told : g.P.Partitions.fault_count l.log ≡ g.P.Partitions.fault_count l.fn.log;
}
