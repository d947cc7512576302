use Rattle.commit_sink.specs.Shares.{ledger_of}
use Rattle.commit_sink.proofs.Ready.{aborted-again, kept-aborted, of_none, of_some, ready}
use Rattle.commit_sink.proofs.memory_transactions.MemoryTransactionsTransactions.abort.Goals as goal

pub subtask_of-subtask-requires : goal.subtask_of-subtask-requires
subtask_of-subtask-requires c =
    let f = of_some c.in_ok-place.field-0 _ _ c.in-Some.place c.in-Some.is c.in_ok-place.ensures.ok in
    let r = ready c.args.self.now.subtasks c.args.self.now.transactions.items c.args.self.now.committed c.args.self.now.shares.items c.args.transaction c.in-Some.place f.0 c.args.self.now.kept f.2 f.1 in
    r.within

pub row_count-rows-requires : goal.row_count-rows-requires
row_count-rows-requires c =
    let f = of_some c.in_ok-place.field-0 _ _ c.in-Some.place c.in-Some.is c.in_ok-place.ensures.ok in
    let r = ready c.args.self.now.subtasks c.args.self.now.transactions.items c.args.self.now.committed c.args.self.now.shares.items c.args.transaction c.in-Some.place f.0 c.args.self.now.kept f.2 f.1 in
    r.within

pub abort_entry-requires : goal.abort_entry-requires
abort_entry-requires c =
    let f = of_some c.in_ok-place.field-0 _ _ c.in-Some.place c.in-Some.is c.in_ok-place.ensures.ok in
    let r = ready c.args.self.now.subtasks c.args.self.now.transactions.items c.args.self.now.committed c.args.self.now.shares.items c.args.transaction c.in-Some.place f.0 c.args.self.now.kept f.2 f.1 in
    r.within

pub release-requires : goal.release-requires
release-requires c =
    let f = of_some c.in_ok-place.field-0 _ _ c.in-Some.place c.in-Some.is c.in_ok-place.ensures.ok in
    let r = ready c.args.self.now.subtasks c.args.self.now.transactions.items c.args.self.now.committed c.args.self.now.shares.items c.args.transaction c.in-Some.place f.0 c.args.self.now.kept f.2 f.1 in
    r.promised

pub drop_rows-requires-clause-there : goal.drop_rows-requires-clause-there
drop_rows-requires-clause-there c =
    let f = of_some c.in_ok-place.field-0 _ _ c.in-Some.place c.in-Some.is c.in_ok-place.ensures.ok in
    let r = ready c.args.self.now.subtasks c.args.self.now.transactions.items c.args.self.now.committed c.args.self.now.shares.items c.args.transaction c.in-Some.place f.0 c.args.self.now.kept f.2 f.1 in
    rw (c.subtask_of-subtask.ensures r.transaction r.at) r.there

pub drop_rows-requires-clause-promised : goal.drop_rows-requires-clause-promised
drop_rows-requires-clause-promised c =
    let f = of_some c.in_ok-place.field-0 _ _ c.in-Some.place c.in-Some.is c.in_ok-place.ensures.ok in
    let r = ready c.args.self.now.subtasks c.args.self.now.transactions.items c.args.self.now.committed c.args.self.now.shares.items c.args.transaction c.in-Some.place f.0 c.args.self.now.kept f.2 f.1 in
    rw (c.subtask_of-subtask.ensures r.transaction r.at) r.share_promised

pub drop_rows-requires-clause-pending : goal.drop_rows-requires-clause-pending
drop_rows-requires-clause-pending c =
    let f = of_some c.in_ok-place.field-0 _ _ c.in-Some.place c.in-Some.is c.in_ok-place.ensures.ok in
    let r = ready c.args.self.now.subtasks c.args.self.now.transactions.items c.args.self.now.committed c.args.self.now.shares.items c.args.transaction c.in-Some.place f.0 c.args.self.now.kept f.2 f.1 in
    rw (c.subtask_of-subtask.ensures r.transaction r.at, c.row_count-rows.ensures r.transaction r.at) r.pending

pub invariant_of-self : goal.invariant_of-self
invariant_of-self c =
    let f = of_some c.in_ok-place.field-0 _ _ c.in-Some.place c.in-Some.is c.in_ok-place.ensures.ok in
    let r = ready c.args.self.now.subtasks c.args.self.now.transactions.items c.args.self.now.committed c.args.self.now.shares.items c.args.transaction c.in-Some.place f.0 c.args.self.now.kept f.2 f.1 in
    record { kept = kept-aborted c.args.self.now.subtasks c.args.self.now.transactions.items c.abort_entry.new.transactions.items c.args.self.now.committed c.release.new.self c.args.self.now.shares.items c.drop_rows.new.shares.items c.args.transaction c.in-Some.place r c.args.self.now.kept (c.abort_entry.ensures r.transaction r.at) c.release.ensures c.subtask_of-subtask.result c.row_count-rows.result (c.subtask_of-subtask.ensures r.transaction r.at) (c.row_count-rows.ensures r.transaction r.at) c.drop_rows.ensures.share c.drop_rows.ensures.others }

pub returns-in_default-clause-ends : goal.returns-in_default-clause-ends
returns-in_default-clause-ends c =
    let f = of_none c.in_ok-place.field-0 _ _ c.in_default.is c.in_ok-place.ensures.ok in
    aborted-again (ledger_of c.args.self.now.subtasks c.args.self.now.transactions.items c.args.self.now.committed.items) c.args.transaction f.0 c.args.self.now.kept.ordered f.1
