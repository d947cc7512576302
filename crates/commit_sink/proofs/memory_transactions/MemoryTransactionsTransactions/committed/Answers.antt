use Rattle.std.proofs.Common.{◌≤◌, Some, sym, ap, ◌∙◌, subst}
use Rattle.std.specs.List.Sorted.{IsNonDecreasingBy}
use Rattle.commit_sink.specs.Ends.{Stands, rows_of}
use Rattle.commit_sink.specs.Shares.{ledger_of, share_at}
use Rattle.commit_sink.proofs.Rows.{no_row, row-found, rows-rise}
use Rattle.commit_sink.proofs.memory_transactions.MemoryTransactionsTransactions.committed.Goals as goal

pub find-requires : goal.find-requires
find-requires c =
    subst (λ share. IsNonDecreasingBy (λ e. e.rows) share.ends.items) (sym c.in-Some.ensures.some) (rows-rise (ledger_of c.args.self.now.subtasks c.args.self.now.transactions.items c.args.self.now.committed.items) c.args.subtask (share_at c.args.self.now.shares.items c.args.subtask) (c.args.self.now.kept.share c.args.subtask))

pub returns-in_default-find-clause-row : goal.returns-in_default-find-clause-row
returns-in_default-find-clause-row c =
    sym (no_row (ledger_of c.args.self.now.subtasks c.args.self.now.transactions.items c.args.self.now.committed.items) c.args.subtask c.args.index (share_at c.args.self.now.shares.items c.args.subtask) (c.args.self.now.kept.share c.args.subtask) (subst (λ share. rows_of share.ends.items ≤ c.args.index) c.in-Some.ensures.some c.in_default-find.ensures.none))

pub row_at-row-requires : goal.row_at-row-requires
row_at-row-requires c =
    let r = row-found (ledger_of c.args.self.now.subtasks c.args.self.now.transactions.items c.args.self.now.committed.items) c.args.subtask c.args.index (share_at c.args.self.now.shares.items c.args.subtask) c.in-Some-find.ensures.some.0 c.in-Some-find.transaction c.in-Some-find.place (c.args.self.now.kept.share c.args.subtask) (subst (λ share. Stands share.ends.items c.in-Some-find.ensures.some.0 c.args.index (c.in-Some-find.transaction, c.in-Some-find.place)) c.in-Some.ensures.some c.in-Some-find.ensures.some.1) in
    record { transaction = r.transaction; is = r.is; within = r.within }

pub returns-clause-row : goal.returns-clause-row
returns-clause-row c =
    let r = row-found (ledger_of c.args.self.now.subtasks c.args.self.now.transactions.items c.args.self.now.committed.items) c.args.subtask c.args.index (share_at c.args.self.now.shares.items c.args.subtask) c.in-Some-find.ensures.some.0 c.in-Some-find.transaction c.in-Some-find.place (c.args.self.now.kept.share c.args.subtask) (subst (λ share. Stands share.ends.items c.in-Some-find.ensures.some.0 c.args.index (c.in-Some-find.transaction, c.in-Some-find.place)) c.in-Some.ensures.some c.in-Some-find.ensures.some.1) in
    ap Some c.in_ok-from_slice.ensures.items ∙ sym (c.row_at-row.ensures r.transaction r.is) ∙ sym r.row
