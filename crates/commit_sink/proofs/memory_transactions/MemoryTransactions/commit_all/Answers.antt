use Rattle.std.proofs.Common.{refl, ap, subst, ◌∙◌, take, get_or, length, ◌≡◌, ◌≤◌, arith}
use Rattle.std.proofs.lemmas.List.{take_all}
use Rattle.commit_sink.specs.Ledger.{after_commit, commit_refusal}
use Rattle.commit_sink.specs.Lists.{AreSettled}
use Rattle.commit_sink.specs.Shares.{ledger_of}
use Rattle.commit_sink.proofs.Listed.{settle_next, settled_all, when_ok}
use Rattle.commit_sink.proofs.memory_transactions.MemoryTransactions.commit_all.Goals as goal

pub loop-number-init : goal.loop-number-init
loop-number-init c = λ all ordered settled none. (refl, none, settled)

pub loop-number-preserved : goal.loop-number-preserved
loop-number-preserved c = λ all ordered settled none.
    let so_far = c.loop-number.invariant all ordered settled none in
    let n = get_or c.args.numbers.now c.loop-number.number-index 0 in
    let old = ledger_of c.loop-number.self.subtasks c.loop-number.self.transactions.items c.loop-number.self.committed.items in
    let new = ledger_of c.commit.new.self.subtasks c.commit.new.self.transactions.items c.commit.new.self.committed.items in
    let done = when_ok (old, 0) (new, 0) (commit_refusal old n) (after_commit old n) c.commit.result c.in_ok-memory.field-0 c.in_ok-memory.ensures c.commit.ensures.ends in
    let same : old ≡ ledger_of c.args.self.now.subtasks c.loop-number.self.transactions.items (take c.loop-number.number-index c.args.numbers.now) =
    λ i. ledger_of (so_far.0 i) c.loop-number.self.transactions.items (so_far.1 i) in
    settle_next c.args.self.now.subtasks all c.args.numbers.now c.loop-number.number-index c.loop-number.self.transactions.items new c.loop-number-test.true ordered so_far.2
    (done ∙ ap (λ l. after_commit l n) same)

pub returns : goal.returns
returns c = λ all ordered settled none.
    let so_far = c.loop-number.invariant all ordered settled none in
    let long : length c.args.numbers.now ≤ c.loop-number.number-index = omega (arith, c.loop-number-test.false) in
    let whole = take_all c.loop-number.number-index c.args.numbers.now long in
    let is = settled_all c.args.self.now.subtasks all c.args.numbers.now c.loop-number.self.transactions.items ordered (subst (λ done. AreSettled all done c.loop-number.self.transactions.items) whole so_far.2) in
    λ i. ledger_of (so_far.0 i) (is i) ((so_far.1 ∙ whole) i)
