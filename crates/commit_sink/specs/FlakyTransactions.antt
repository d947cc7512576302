-- Transactions that fail by plan.
use Rattle.fault_plan.specs.Plan.{Planned}
use Rattle.commit_sink.specs.declared.flaky_transactions.FlakyTransactions.{FlakyTransactions}

-- the transactions behind
abbrev pub transactions_of : {X : Type 0} → FlakyTransactions X → X
transactions_of f = f.transactions

-- which calls fail
abbrev pub plan_of : {X : Type 0} → FlakyTransactions X → Planned
plan_of f = f.plan
