use Rattle.std.proofs.Common.{◌≡◌, ℕ, List, [], ◌∷◌, ◌++◌, ◌+◌, length, sym, ap, subst, ◌∙◌, append_assoc, None}
use Rattle.std.specs.Prelude.{IfOk}
use Rattle.commit_sink.specs.declared.transactions.Progress.TheVariants.{Open}
use Rattle.commit_sink.specs.Ledger.{begun, open_refusal, appended}
use Rattle.commit_sink.specs.Shares.{ledger_of}
use Rattle.commit_sink.proofs.Listed.{changed_last, none_left, when_ok}
use Rattle.commit_sink.proofs.memory_transactions.MemoryTransactions.begin_with.Goals as goal

pub loop-row-init : goal.loop-row-init
loop-row-init c =
    let old = ledger_of c.args.self.now.subtasks c.args.self.now.transactions.items c.args.self.now.committed.items in
    let new = ledger_of c.begin.new.self.subtasks c.begin.new.self.transactions.items c.begin.new.self.committed.items in
    record {
      number = subst (λ r. IfOk r (λ n. n ≡ length c.args.self.now.transactions.items + 1)) c.in_ok-transaction.ensures c.begin.ensures.number;
      so_far = ([], c.into_iter-row-iterator.ensures.into_iter_gives.0, when_ok (old, 0) (new, 0) None (begun old c.args.subtask) c.begin.result c.in_ok-transaction.transaction c.in_ok-transaction.ensures c.begin.ensures.ends);
    }

pub loop-row-preserved : goal.loop-row-preserved
loop-row-preserved c =
    let old = ledger_of c.loop-row.self.subtasks c.loop-row.self.transactions.items c.loop-row.self.committed.items in
    let new = ledger_of c.append_bytes.new.self.subtasks c.append_bytes.new.self.transactions.items c.append_bytes.new.self.committed.items in
    let done = when_ok (old, 0) (new, 0) (open_refusal old c.in_ok-transaction.transaction) (appended old c.in_ok-transaction.transaction c.in-Some.row) c.append_bytes.result c.in_ok-memory.field-0 c.in_ok-memory.ensures c.append_bytes.ensures in
    let before = c.loop-row.invariant.so_far in
    record {
      number = c.loop-row.invariant.number;
      so_far = (
        before.0 ++ c.in-Some.row ∷ [],
        append_assoc before.0 (c.in-Some.row ∷ []) c.next.new.self.rest.items ∙ ap (λ (rest : List (List ℕ)). before.0 ++ rest) (sym c.in-Some.ensures.steps.0) ∙ before.1,
        done ∙ ap (λ l. appended l c.in_ok-transaction.transaction c.in-Some.row) before.2
            ∙ changed_last c.args.self.now.subtasks c.args.self.now.transactions.items (record { subtask = c.args.subtask; progress = Open; records = before.0 }) c.args.self.now.committed.items c.in_ok-transaction.transaction
            (λ t. record t { records = t.records ++ c.in-Some.row ∷ [] }) c.loop-row.invariant.number,
      );
    }

pub returns-clause-number : goal.returns-clause-number
returns-clause-number c = c.loop-row.invariant.number

pub returns-clause-state : goal.returns-clause-state
returns-clause-state c =
    let before = c.loop-row.invariant.so_far in
    before.2 ∙ ap (λ (done : List (List ℕ)). ledger_of c.args.self.now.subtasks (c.args.self.now.transactions.items ++ record { subtask = c.args.subtask; progress = Open; records = done } ∷ []) c.args.self.now.committed.items)
    (none_left before.0 c.loop-row.row-iterator.rest.items c.args.records.items (sym c.loop-row.row-iterator.rest.ok.0 ∙ c.in-None.ensures.steps.0) before.1)
