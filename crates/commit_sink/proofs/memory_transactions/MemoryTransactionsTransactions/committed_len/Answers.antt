use Rattle.std.proofs.Common.{sym, ap, ◌∙◌, length, subst}
use Rattle.commit_sink.specs.Ends.{rows_of}
use Rattle.commit_sink.specs.Shares.{IsShare, ledger_of, share_at}
use Rattle.commit_sink.proofs.Rows.{empty_rows, rows_of-committed}
use Rattle.commit_sink.proofs.memory_transactions.MemoryTransactionsTransactions.committed_len.Goals as goal

pub returns-in-Some : goal.returns-in-Some
returns-in-Some c =
    c.committed_len.ensures ∙ ap (λ share. rows_of share.ends.items) c.in-Some.ensures.some ∙ rows_of-committed (ledger_of c.args.self.now.subtasks c.args.self.now.transactions.items c.args.self.now.committed.items) c.args.subtask (share_at c.args.self.now.shares.items c.args.subtask) (c.args.self.now.kept.share c.args.subtask)

pub returns-in-None : goal.returns-in-None
returns-in-None c =
    sym (ap length (empty_rows (ledger_of c.args.self.now.subtasks c.args.self.now.transactions.items c.args.self.now.committed.items) c.args.subtask
    (subst (IsShare (ledger_of c.args.self.now.subtasks c.args.self.now.transactions.items c.args.self.now.committed.items) c.args.subtask) c.in-None.ensures.none (c.args.self.now.kept.share c.args.subtask))))
