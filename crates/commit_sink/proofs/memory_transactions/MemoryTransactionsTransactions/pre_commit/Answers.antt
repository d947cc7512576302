use Rattle.std.proofs.Common.{refl}
use Rattle.commit_sink.specs.declared.transactions.Progress.TheVariants.{Open}
use Rattle.commit_sink.proofs.Ready.{kept-pre_committed, ready}
use Rattle.commit_sink.proofs.memory_transactions.MemoryTransactionsTransactions.pre_commit.Goals as goal

pub invariant_of-self : goal.invariant_of-self
invariant_of-self c =
    let r = ready c.args.self.now.subtasks c.args.self.now.transactions.items c.args.self.now.committed c.args.self.now.shares.items c.args.transaction c.in_ok-place.place Open c.args.self.now.kept c.in_ok-place.ensures refl in
    record { kept = kept-pre_committed c.args.self.now.subtasks c.args.self.now.transactions.items c.set_progress.new.transactions.items c.args.self.now.committed c.args.self.now.shares.items c.args.transaction c.in_ok-place.place c.args.checkpoint r c.args.self.now.kept (c.set_progress.ensures r.transaction r.at) }
