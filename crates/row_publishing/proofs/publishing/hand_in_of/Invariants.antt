use Rattle.std.proofs.Common.{◌≡◌, ◌≢◌, ℕ, length}
use Rattle.published_lists.specs.Rows.{rows_of}
use Rattle.row_publishing.specs.Showing.{BeginCommitted}
use Rattle.row_publishing.proofs.publishing.hand_in_of.Given as goal

abbrev pub invariant-loop-number : goal.invariant-loop-number
invariant-loop-number g l = record {
  begin : BeginCommitted l.writer.appended l.core.engine;
  count : length (rows_of l.writer.appended l.sink) ≡ l.number;
  others : (s : ℕ) → s ≢ l.sink → rows_of l.writer.appended s ≡ rows_of l.fn.writer.appended s;
  published : l.writer.published ≡ l.fn.writer.published;
  same : (l.writer.history ≡ l.fn.writer.history) × (l.writer.readers ≡ l.fn.writer.readers);
}
