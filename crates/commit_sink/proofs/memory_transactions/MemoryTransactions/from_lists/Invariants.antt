use Rattle.std.proofs.Common.{◌≡◌, List, [], ◌++◌, map}
use Rattle.commit_sink.specs.Ledger.{Transaction}
use Rattle.commit_sink.specs.Lists.{to_commit}
use Rattle.commit_sink.specs.Shares.{ledger_of}
use Rattle.commit_sink.proofs.memory_transactions.MemoryTransactions.from_lists.Given as goal

-- those so far are there, as they are before a commit
abbrev pub invariant-loop-entry : goal.invariant-loop-entry
invariant-loop-entry l = (done : List Transaction) × (done ++ l.entry-iterator.rest.items ≡ l.fn.transactions.items)
    × (ledger_of l.made.subtasks l.made.transactions.items l.made.committed.items ≡ ledger_of l.subtasks (map to_commit done) [])
