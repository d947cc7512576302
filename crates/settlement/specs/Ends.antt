-- How settling a sink's transactions ends.
use Rattle.std.specs.Prelude.{ℕ, List, Option, Result, Ok, Err}
use Rattle.commit_sink.specs.Ledger.{Ledger}
use Rattle.commit_sink.specs.declared.transactions.TransactionFault.{TransactionFault}
use Rattle.commit_sink.specs.declared.transactions.TransactionFault.TheVariants as transactions
use Rattle.engine_model.specs.Restart as restart
use Rattle.engine_model.specs.Restart.{InTurn, UpTo, CommitsNext, AbortsNext, Settles, SettlesPartly}
use Rattle.settlement.specs.declared.fault.SettlementFault.{SettlementFault}
use Rattle.settlement.specs.declared.fault.SettlementFault.TheVariants.{Fault, NamesOther, Memory}

-- a transaction that is named was not committed
abbrev pub commit_fault : TransactionFault → SettlementFault
commit_fault transactions.Fault = Fault
commit_fault other = NamesOther

-- another call on transactions was refused
abbrev pub call_fault : TransactionFault → SettlementFault
call_fault transactions.Memory = Memory
call_fault other = Fault

module _ (old new : Ledger) where
  -- the commits of a sink's names, and the aborts of the others
  abbrev pub EndsCommits : List ℕ → Result Unit SettlementFault → Type 0
  EndsCommits names (Ok u) = InTurn CommitsNext names old new
  EndsCommits names (Err Fault) = UpTo CommitsNext names old new
  EndsCommits names (Err NamesOther) = restart.NamesOther names old new
  EndsCommits names (Err Memory) = ⊥

  abbrev pub EndsAborts : List (ℕ × Option ℕ) → Result Unit SettlementFault → Type 0
  EndsAborts unsettled (Ok u) = InTurn AbortsNext unsettled old new
  EndsAborts unsettled (Err Fault) = UpTo AbortsNext unsettled old new
  EndsAborts unsettled (Err other) = ⊥

  -- a sink's transactions
  abbrev pub EndsSettle : List ℕ → ℕ → Result ℕ SettlementFault → Type 0
  EndsSettle names subtask (Ok opened) = Settles names subtask opened old new
  EndsSettle names subtask (Err Fault) = SettlesPartly names subtask old new
  EndsSettle names subtask (Err NamesOther) = restart.NamesOther names old new
  EndsSettle names subtask (Err Memory) = SettlesPartly names subtask old new
