use Rattle.std.proofs.Common.{◌≡◌, take, drop}
use Rattle.commit_sink.specs.Ledger.{unsettled_of}
use Rattle.engine_model.specs.Restart.{InTurn, AbortsNext}
use Rattle.settlement.proofs.settle.abort_all.Given as goal

-- those met so far are aborted, and the others are all that is left
abbrev pub invariant-loop-transaction : goal.invariant-loop-transaction
invariant-loop-transaction g l = record {
  turns : InTurn AbortsNext (take l.transaction-index l.unsettled) (g.X.Transactions.state l.fn.transactions) (g.X.Transactions.state l.transactions);
  left : unsettled_of (g.X.Transactions.state l.transactions) l.subtask ≡ drop l.transaction-index l.unsettled;
  same : (g.X.Transactions.state l.transactions).subtasks ≡ (g.X.Transactions.state l.fn.transactions).subtasks;
  counted : g.X.Transactions.fault_count l.transactions ≡ g.X.Transactions.fault_count l.fn.transactions;
}
