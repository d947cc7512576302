use Rattle.std.proofs.Common.{◌≡◌, ◌<◌, ℕ, Some, slice_get}
use Rattle.commit_sink.specs.Ledger.{committed_rows}
use Rattle.job_graph.specs.declared.role.Role.TheVariants as role
use Rattle.published_lists.specs.Rows.{rows_of}
use Rattle.row_publishing.specs.Showing.{BeginCommitted}
use Rattle.row_publishing.proofs.publishing.hand_in.Given as goal

abbrev pub invariant-loop-sink : goal.invariant-loop-sink
invariant-loop-sink g l = record {
  begin : BeginCommitted l.writer.appended l.core.engine;
  all : (task s : ℕ) → slice_get l.core.engine.graph.tasks task ≡ Some (role.Sink s) → s < l.sink → rows_of l.writer.appended s ≡ committed_rows l.core.engine.ledger s;
  published : l.writer.published ≡ l.fn.writer.published;
  same : (l.writer.history ≡ l.fn.writer.history) × (l.writer.readers ≡ l.fn.writer.readers);
}
