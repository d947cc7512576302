use Rattle.std.proofs.Common.{◌≡◌, ◌≤◌, List, None, Ok, length}
use Rattle.channels.specs.Items.{leading_records}
use Rattle.commit_sink.specs.Ledger.{open_refusal}
use Rattle.engine_model.specs.Language.{language}
use Rattle.job_state.specs.Sending.{items_at}
use Rattle.claims.specs.Rows.{AcceptsInTurn, with_taken}
use Rattle.claims.proofs.rows.put_all.Given as goal

-- so many are as good as taken in turn, and the transaction is open for the next one
abbrev pub invariant-loop-worked : goal.invariant-loop-worked
invariant-loop-worked g l = record {
  within : l.count ≤ length (leading_records (items_at l.attempt.channels l.place.0));
  is_open : open_refusal (g.X.Transactions.state l.transactions) l.place.1 ≡ None;
  count : l.count ≡ length l.yielded;
  taken : (operators : List g.row.O.Denot) → AcceptsInTurn (language g.O.Operator.meaning g.O.Key.Ord.cmp g.O.Record.Codec.spelling g.O.Record.Codec.reading g.O.Key.Codec.reading g.O.State.Codec.reading) l.graph operators l.task l.input l.yielded l.attempt (with_taken l.attempt l.place.0 l.count) (g.X.Transactions.state l.fn.transactions) (g.X.Transactions.state l.transactions) l.count (Ok tt);
  told : g.X.Transactions.fault_count l.transactions ≡ g.X.Transactions.fault_count l.fn.transactions;
}
