use Rattle.std.proofs.Common.{◌≡◌, length}
use Rattle.engine_model.specs.Restart.{InTurn, Takes, before_tasks, openings_of}
use Rattle.recovery.proofs.settle.settle_transactions.Given as goal

-- the tasks met so far have taken what they start from
abbrev pub invariant-loop-start : goal.invariant-loop-start
invariant-loop-start g l = record {
  turns : InTurn Takes l.yielded (before_tasks (g.X.Transactions.state l.fn.transactions)) (record { ledger = g.X.Transactions.state l.transactions; tasks = l.tasks.items });
  logs : l.openings.items ≡ openings_of l.yielded;
  len : length l.tasks.items ≡ length l.yielded;
  same : (g.X.Transactions.state l.transactions).subtasks ≡ (g.X.Transactions.state l.fn.transactions).subtasks;
  counted : g.X.Transactions.fault_count l.transactions ≡ g.X.Transactions.fault_count l.fn.transactions;
}
