use Rattle.std.proofs.Common.{◌≡◌, take}
use Rattle.engine_model.specs.Restart.{InTurn, CommitsNext}
use Rattle.settlement.proofs.settle.commit_named.Given as goal

-- those met so far are committed
abbrev pub invariant-loop-name : goal.invariant-loop-name
invariant-loop-name g l = record {
  turns : InTurn CommitsNext (take l.name-index l.names) (g.X.Transactions.state l.fn.transactions) (g.X.Transactions.state l.transactions);
  same : (g.X.Transactions.state l.transactions).subtasks ≡ (g.X.Transactions.state l.fn.transactions).subtasks;
  counted : g.X.Transactions.fault_count l.transactions ≡ g.X.Transactions.fault_count l.fn.transactions;
}
