use Rattle.std.proofs.Common.{◌≡◌, sym, ap, ◌∙◌, [], subst}
use Rattle.std.specs.Prelude.{IfOk}
use Rattle.commit_sink.proofs.Unsettled.{told-numbers}
use Rattle.commit_sink.proofs.memory_transactions.MemoryTransactionsTransactions.unsettled.Goals as goal

pub returns-in-Some-clause-numbers : goal.returns-in-Some-clause-numbers
returns-in-Some-clause-numbers c =
    subst (λ told. IfOk c.unsettled_of.result (λ numbers. numbers.items ≡ told))
    (told-numbers c.args.subtask c.args.self.now.transactions.items c.in-Some.share.now.unsettled.keys
    (ap (λ share. share.unsettled.keys) c.in-Some.ensures.some ∙ (c.args.self.now.kept.share c.args.subtask).unsettled))
    c.unsettled_of.ensures.ok

pub returns-in-None-clause-numbers : goal.returns-in-None-clause-numbers
returns-in-None-clause-numbers c =
    c.new.ensures.items
    ∙ told-numbers c.args.subtask c.args.self.now.transactions.items []
    (sym (ap (λ share. share.unsettled.keys) c.in-None.ensures.none) ∙ (c.args.self.now.kept.share c.args.subtask).unsettled)
