use Rattle.std.proofs.Common.{sym, subst}
use Rattle.std.specs.List.Sorted.{IsNonDecreasingBy}
use Rattle.commit_sink.specs.Ends.{Stands}
use Rattle.commit_sink.specs.Shares.{ledger_of, share_at}
use Rattle.commit_sink.proofs.Rows.{row-found, rows-rise, run-found}
use Rattle.commit_sink.proofs.memory_transactions.MemoryTransactionsTransactions.committed_from.Goals as goal

pub find-requires : goal.find-requires
find-requires c =
    subst (λ share. IsNonDecreasingBy (λ e. e.rows) share.ends.items) (sym c.in-Some.ensures.some) (rows-rise (ledger_of c.args.self.now.subtasks c.args.self.now.transactions.items c.args.self.now.committed.items) c.args.subtask (share_at c.args.self.now.shares.items c.args.subtask) (c.args.self.now.kept.share c.args.subtask))

pub rows_from-requires : goal.rows_from-requires
rows_from-requires c =
    let r = row-found (ledger_of c.args.self.now.subtasks c.args.self.now.transactions.items c.args.self.now.committed.items) c.args.subtask c.args.index (share_at c.args.self.now.shares.items c.args.subtask) c.in-Some-find.ensures.some.0 c.in-Some-find.transaction c.in-Some-find.place (c.args.self.now.kept.share c.args.subtask) (subst (λ share. Stands share.ends.items c.in-Some-find.ensures.some.0 c.args.index (c.in-Some-find.transaction, c.in-Some-find.place)) c.in-Some.ensures.some c.in-Some-find.ensures.some.1) in
    record { transaction = r.transaction; is = r.is; within = r.within }

pub returns : goal.returns
returns c =
    let l = ledger_of c.args.self.now.subtasks c.args.self.now.transactions.items c.args.self.now.committed.items in
    let kept = c.args.self.now.kept.share c.args.subtask in
    let stands = subst (λ share. Stands share.ends.items c.in-Some-find.ensures.some.0 c.args.index (c.in-Some-find.transaction, c.in-Some-find.place)) c.in-Some.ensures.some c.in-Some-find.ensures.some.1 in
    let r = row-found l c.args.subtask c.args.index (share_at c.args.self.now.shares.items c.args.subtask) c.in-Some-find.ensures.some.0 c.in-Some-find.transaction c.in-Some-find.place kept stands in
    run-found l c.args.subtask c.args.index (share_at c.args.self.now.shares.items c.args.subtask) c.in-Some-find.ensures.some.0 c.in-Some-find.transaction c.in-Some-find.place kept stands r c.rows_from.result.now (c.rows_from.ensures r.transaction r.is)
