use Rattle.std.proofs.Common.{◌≡◌, List, [], take}
use Rattle.commit_sink.specs.Ledger.{IsOrdered, Transaction}
use Rattle.commit_sink.specs.Lists.{AreSettled}
use Rattle.commit_sink.specs.Shares.{ledger_of}
use Rattle.commit_sink.proofs.memory_transactions.MemoryTransactions.commit_all.Given as goal

-- those so far are committed
abbrev pub invariant-loop-number : goal.invariant-loop-number
invariant-loop-number l = (transactions : List Transaction) → IsOrdered (ledger_of l.fn.self.subtasks transactions l.numbers) → AreSettled transactions [] l.fn.self.transactions.items → l.fn.self.committed.items ≡ []
    → (l.self.subtasks ≡ l.fn.self.subtasks) × (l.self.committed.items ≡ take l.number-index l.numbers) × AreSettled transactions (take l.number-index l.numbers) l.self.transactions.items
