use Rattle.std.proofs.Common.{◌≡◌, ◌<◌, List, None, Ok, length}
use Rattle.commit_sink.specs.Ledger.{open_refusal}
use Rattle.engine_model.specs.Language.{language}
use Rattle.job_state.specs.Held.{gate_at}
use Rattle.claims.specs.Rows.{SinksInto, AcceptsInTurn}
use Rattle.claims.proofs.rows.take_each.Given as goal

-- so many were taken in turn, and the sink may take the next one
abbrev pub invariant-loop-worked : goal.invariant-loop-worked
invariant-loop-worked g l = record {
  sinks : (at : SinksInto l.graph l.task l.input l.attempt l.place.0) × (at.sink.open_one ≡ l.place.1);
  within : l.input < length (gate_at l.attempt l.task).inputs;
  logs : l.place.0 < length l.attempt.logs;
  is_open : open_refusal (g.X.Transactions.state l.transactions) l.place.1 ≡ None;
  count : l.count ≡ length l.yielded;
  taken : (operators : List g.row.O.Denot) → AcceptsInTurn (language g.O.Operator.meaning g.O.Key.Ord.cmp g.O.Record.Codec.spelling g.O.Record.Codec.reading g.O.Key.Codec.reading g.O.State.Codec.reading) l.graph operators l.task l.input l.yielded l.fn.attempt l.attempt (g.X.Transactions.state l.fn.transactions) (g.X.Transactions.state l.transactions) l.count (Ok tt);
  told : g.X.Transactions.fault_count l.transactions ≡ g.X.Transactions.fault_count l.fn.transactions;
}
