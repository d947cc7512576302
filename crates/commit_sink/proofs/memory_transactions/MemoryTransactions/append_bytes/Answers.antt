use Rattle.std.proofs.Common.{refl, sym, ◌∙◌}
use Rattle.commit_sink.specs.declared.transactions.Progress.TheVariants.{Open}
use Rattle.commit_sink.proofs.Ready.{kept-appended, ready}
use Rattle.commit_sink.proofs.memory_transactions.MemoryTransactions.append_bytes.Goals as goal

pub is_full-requires-clause-there : goal.is_full-requires-clause-there
is_full-requires-clause-there c =
    let r = ready c.args.self.now.subtasks c.args.self.now.transactions.items c.args.self.now.committed c.args.self.now.shares.items c.args.transaction c.in_ok-place.place Open c.args.self.now.kept c.in_ok-place.ensures refl in
    rw (c.subtask_of-subtask.ensures r.transaction r.at) r.there

pub append_row-requires : goal.append_row-requires
append_row-requires c =
    let r = ready c.args.self.now.subtasks c.args.self.now.transactions.items c.args.self.now.committed c.args.self.now.shares.items c.args.transaction c.in_ok-place.place Open c.args.self.now.kept c.in_ok-place.ensures refl in
    r.within

pub add_row-requires-clause-there : goal.add_row-requires-clause-there
add_row-requires-clause-there c =
    let r = ready c.args.self.now.subtasks c.args.self.now.transactions.items c.args.self.now.committed c.args.self.now.shares.items c.args.transaction c.in_ok-place.place Open c.args.self.now.kept c.in_ok-place.ensures refl in
    rw (c.subtask_of-subtask.ensures r.transaction r.at) r.there

pub invariant_of-self-2 : goal.invariant_of-self-2
invariant_of-self-2 c =
    let r = ready c.args.self.now.subtasks c.args.self.now.transactions.items c.args.self.now.committed c.args.self.now.shares.items c.args.transaction c.in_ok-place.place Open c.args.self.now.kept c.in_ok-place.ensures refl in
    record { kept = kept-appended c.args.self.now.subtasks c.args.self.now.transactions.items c.append_row.new.transactions.items c.args.self.now.committed c.args.self.now.shares.items c.add_row.new.shares.items c.args.transaction c.in_ok-place.place r c.args.self.now.kept c.args.row (c.in_ok-append_row.ensures.ok r.transaction r.at) c.subtask_of-subtask.result (c.subtask_of-subtask.ensures r.transaction r.at) (λ e. absurd (cc (sym c.if-is_full.false ∙ c.is_full.ensures.1 e))) c.add_row.ensures.share c.add_row.ensures.others }
