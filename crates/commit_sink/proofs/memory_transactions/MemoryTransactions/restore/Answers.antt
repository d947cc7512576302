use Rattle.std.proofs.Common.{◌≡◌, [], ◌∷◌, ◌++◌, sym, ap, ◌∙◌}
use Rattle.commit_sink.specs.declared.transactions.Progress.TheVariants.{PreCommitted, Aborted}
use Rattle.commit_sink.specs.Ledger.{Ledger, Transaction, abort_refusal, aborted, open_refusal, pre_committed}
use Rattle.commit_sink.specs.Lists.{before_commit, to_commit}
use Rattle.commit_sink.specs.Shares.{ledger_of}
use Rattle.commit_sink.proofs.Listed.{on_ok, restored, when_ok}
use Rattle.commit_sink.proofs.memory_transactions.MemoryTransactions.restore.Goals as goal

pub returns-in-PreCommitted : goal.returns-in-PreCommitted
returns-in-PreCommitted c =
    let base = c.args.self.now.transactions.items in
    let parts = c.in_ok-subtask in
    let mid = ledger_of c.begin_with.new.self.subtasks c.begin_with.new.self.transactions.items c.begin_with.new.self.committed.items in
    let now = ledger_of c.pre_commit.new.self.subtasks c.pre_commit.new.self.transactions.items c.pre_commit.new.self.committed.items in
    let n = c.in_ok-transaction.transaction in
    let wanted : Ledger = ledger_of c.args.self.now.subtasks (base ++ to_commit c.args.entry ∷ []) c.args.self.now.committed.items in
    on_ok (now ≡ wanted) c.memory.result c.pre_commit.result c.memory.ensures (λ v is.
    restored c.args.self.now.subtasks base c.args.self.now.committed.items n parts.subtask parts.progress parts.records.items c.args.entry mid now (λ t. record t { progress = PreCommitted c.in-PreCommitted.checkpoint })
    c.in_ok-subtask.ensures c.in_ok-transaction.ensures.number c.in_ok-transaction.ensures.state
    (when_ok (mid, 0) (now, 0) (open_refusal mid n) (pre_committed mid n c.in-PreCommitted.checkpoint) c.pre_commit.result v is c.pre_commit.ensures.ends)
    (ap (λ q. record { subtask = parts.subtask; progress = before_commit q; records = parts.records.items }) (sym c.in-PreCommitted.is)))

pub returns-in-Committed : goal.returns-in-Committed
returns-in-Committed c =
    let base = c.args.self.now.transactions.items in
    let parts = c.in_ok-subtask in
    let mid = ledger_of c.begin_with.new.self.subtasks c.begin_with.new.self.transactions.items c.begin_with.new.self.committed.items in
    let now = ledger_of c.pre_commit-in-Committed.new.self.subtasks c.pre_commit-in-Committed.new.self.transactions.items c.pre_commit-in-Committed.new.self.committed.items in
    let n = c.in_ok-transaction.transaction in
    let wanted : Ledger = ledger_of c.args.self.now.subtasks (base ++ to_commit c.args.entry ∷ []) c.args.self.now.committed.items in
    on_ok (now ≡ wanted) c.memory-in-Committed.result c.pre_commit-in-Committed.result c.memory-in-Committed.ensures (λ v is.
    restored c.args.self.now.subtasks base c.args.self.now.committed.items n parts.subtask parts.progress parts.records.items c.args.entry mid now (λ t. record t { progress = PreCommitted 0 })
    c.in_ok-subtask.ensures c.in_ok-transaction.ensures.number c.in_ok-transaction.ensures.state
    (when_ok (mid, 0) (now, 0) (open_refusal mid n) (pre_committed mid n 0) c.pre_commit-in-Committed.result v is c.pre_commit-in-Committed.ensures.ends)
    (ap (λ q. record { subtask = parts.subtask; progress = before_commit q; records = parts.records.items }) (sym c.in-Committed.is)))

pub returns-in-Aborted : goal.returns-in-Aborted
returns-in-Aborted c =
    let base = c.args.self.now.transactions.items in
    let parts = c.in_ok-subtask in
    let mid = ledger_of c.begin_with.new.self.subtasks c.begin_with.new.self.transactions.items c.begin_with.new.self.committed.items in
    let now = ledger_of c.abort.new.self.subtasks c.abort.new.self.transactions.items c.abort.new.self.committed.items in
    let n = c.in_ok-transaction.transaction in
    let wanted : Ledger = ledger_of c.args.self.now.subtasks (base ++ to_commit c.args.entry ∷ []) c.args.self.now.committed.items in
    on_ok (now ≡ wanted) c.memory-in-Aborted.result c.abort.result c.memory-in-Aborted.ensures (λ v is.
    restored c.args.self.now.subtasks base c.args.self.now.committed.items n parts.subtask parts.progress parts.records.items c.args.entry mid now (λ t. record t { progress = Aborted; records = [] })
    c.in_ok-subtask.ensures c.in_ok-transaction.ensures.number c.in_ok-transaction.ensures.state
    (when_ok (mid, 0) (now, 0) (abort_refusal mid n) (aborted mid n) c.abort.result v is c.abort.ensures.ends)
    (λ i. record {
      subtask = parts.subtask;
      progress = before_commit (sym c.in-Aborted.is i);
      records = (sym (c.requires.emptied (ap (λ (t : Transaction). t.progress) c.in_ok-subtask.ensures ∙ c.in-Aborted.is)) ∙ ap (λ (t : Transaction). t.records) c.in_ok-subtask.ensures) i;
    }))
