-- The calls of transactions that may fail, by number.
use Rattle.std.specs.Prelude.{ℕ}
use Rattle.commit_sink.specs.declared.flaky_transactions.TransactionCall.{TransactionCall}
use Rattle.commit_sink.specs.declared.flaky_transactions.TransactionCall.TheVariants.{Begin, Append, PreCommit, Commit, Abort, Unsettled}

abbrev pub call_number : TransactionCall → ℕ
call_number Begin = 0
call_number Append = 1
call_number PreCommit = 2
call_number Commit = 3
call_number Abort = 4
call_number Unsettled = 5
