use Rattle.std.proofs.Common.{◌<◌, ℕ, List, [], ◌∷◌, ◌++◌, length, map, sym, ap, subst, ◌∙◌, append_assoc}
use Rattle.commit_sink.specs.Ledger.{IsOrdered, Ledger, Transaction}
use Rattle.commit_sink.specs.Lists.{AreSettled, to_commit}
use Rattle.commit_sink.specs.Shares.{ledger_of}
use Rattle.commit_sink.proofs.Listed.{map-push, middle_at, none_left, settled_none}
use Rattle.commit_sink.proofs.memory_transactions.MemoryTransactions.from_lists.Goals as goal

pub loop-entry-init : goal.loop-entry-init
loop-entry-init c = ([], c.into_iter-entry-iterator.ensures.into_iter_gives.0, c.new-made.ensures)

pub restore-requires : goal.restore-requires
restore-requires c =
    let before = c.loop-entry.invariant in
    let whole = ap (λ (rest : List Transaction). before.0 ++ rest) (sym c.in-Some.ensures.steps.0) ∙ before.1 in
    let at = middle_at before.0 c.in-Some.entry c.next.new.self.rest.items c.args.transactions.items whole in
    record {
      subtask = subst (λ st. c.in-Some.entry.subtask < st) (sym (ap (λ (l : Ledger). l.subtasks) before.2)) (c.requires.subtask (length before.0) c.in-Some.entry at);
      emptied = c.requires.emptied (length before.0) c.in-Some.entry at;
    }

pub loop-entry-preserved : goal.loop-entry-preserved
loop-entry-preserved c =
    let before = c.loop-entry.invariant in (
      before.0 ++ c.in-Some.entry ∷ [],
      append_assoc before.0 (c.in-Some.entry ∷ []) c.next.new.self.rest.items ∙ ap (λ (rest : List Transaction). before.0 ++ rest) (sym c.in-Some.ensures.steps.0) ∙ before.1,
      c.in_ok-restore.ensures ∙ ap (λ (l : Ledger). record l { transactions = l.transactions ++ to_commit c.in-Some.entry ∷ [] }) before.2
          ∙ ap (λ (ts : List Transaction). ledger_of c.args.subtasks ts []) (map-push to_commit before.0 c.in-Some.entry),
    )

pub returns : goal.returns
returns c =
    let before = c.loop-entry.invariant in
    let all = none_left before.0 c.loop-entry.entry-iterator.rest.items c.args.transactions.items (sym c.loop-entry.entry-iterator.rest.ok.0 ∙ c.in-None.ensures.steps.0) before.1 in
    let st = ap (λ (l : Ledger). l.subtasks) before.2 in
    let ts = ap (λ (l : Ledger). l.transactions) before.2 ∙ ap (map to_commit) all in
    c.in_ok-commit_all.ensures c.args.transactions.items
    (subst (λ k. IsOrdered (ledger_of k c.args.transactions.items c.as_slice.result.now)) (sym st) (subst (λ (ns : List ℕ). IsOrdered (ledger_of c.args.subtasks c.args.transactions.items ns)) (sym c.as_slice.ensures) c.requires))
    (subst (AreSettled c.args.transactions.items []) (sym ts) (settled_none c.args.transactions.items))
    (ap (λ (l : Ledger). l.committed) before.2)
    ∙ (λ i. ledger_of (st i) c.args.transactions.items (c.as_slice.ensures i))
