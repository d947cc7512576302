use Rattle.std.proofs.Common.{◌≡◌, ℕ, List, [], ◌∷◌, ◌++◌, ◌+◌, length}
use Rattle.commit_sink.specs.declared.transactions.Progress.TheVariants.{Open}
use Rattle.commit_sink.specs.Shares.{ledger_of}
use Rattle.commit_sink.proofs.memory_transactions.MemoryTransactions.begin_with.Given as goal

-- the transaction that was begun has the records so far
abbrev pub invariant-loop-row : goal.invariant-loop-row
invariant-loop-row l = record {
  number : l.transaction ≡ length l.fn.self.transactions.items + 1;
  so_far : (done : List (List ℕ)) × (done ++ l.row-iterator.rest.items ≡ l.fn.records.items)
      × (ledger_of l.self.subtasks l.self.transactions.items l.self.committed.items ≡ ledger_of l.fn.self.subtasks (l.fn.self.transactions.items ++ record { subtask = l.subtask; progress = Open; records = done } ∷ []) l.fn.self.committed.items);
}
