use Rattle.std.proofs.Common.{refl}
use Rattle.commit_sink.specs.declared.transactions.Progress.TheVariants.{PreCommitted}
use Rattle.commit_sink.proofs.Ready.{kept-settled, of_some, ready}
use Rattle.commit_sink.proofs.memory_transactions.MemoryTransactionsTransactions.commit.Goals as goal

pub push-requires : goal.push-requires
push-requires c =
    let f = of_some c.in_ok-place.field-0 _ _ c.in-Some.place c.in-Some.is c.in_ok-place.ensures.ok in
    let r = ready c.args.self.now.subtasks c.args.self.now.transactions.items c.args.self.now.committed c.args.self.now.shares.items c.args.transaction c.in-Some.place (PreCommitted f.0) c.args.self.now.kept f.1 refl in
    r.promised

pub commit_rows-requires-clause-there : goal.commit_rows-requires-clause-there
commit_rows-requires-clause-there c =
    let f = of_some c.in_ok-place.field-0 _ _ c.in-Some.place c.in-Some.is c.in_ok-place.ensures.ok in
    let r = ready c.args.self.now.subtasks c.args.self.now.transactions.items c.args.self.now.committed c.args.self.now.shares.items c.args.transaction c.in-Some.place (PreCommitted f.0) c.args.self.now.kept f.1 refl in
    rw (c.subtask_of-subtask.ensures r.transaction r.at) r.there

pub commit_rows-requires-clause-promised : goal.commit_rows-requires-clause-promised
commit_rows-requires-clause-promised c =
    let f = of_some c.in_ok-place.field-0 _ _ c.in-Some.place c.in-Some.is c.in_ok-place.ensures.ok in
    let r = ready c.args.self.now.subtasks c.args.self.now.transactions.items c.args.self.now.committed c.args.self.now.shares.items c.args.transaction c.in-Some.place (PreCommitted f.0) c.args.self.now.kept f.1 refl in
    rw (c.subtask_of-subtask.ensures r.transaction r.at) r.share_promised

pub commit_rows-requires-clause-pending : goal.commit_rows-requires-clause-pending
commit_rows-requires-clause-pending c =
    let f = of_some c.in_ok-place.field-0 _ _ c.in-Some.place c.in-Some.is c.in_ok-place.ensures.ok in
    let r = ready c.args.self.now.subtasks c.args.self.now.transactions.items c.args.self.now.committed c.args.self.now.shares.items c.args.transaction c.in-Some.place (PreCommitted f.0) c.args.self.now.kept f.1 refl in
    rw (c.subtask_of-subtask.ensures r.transaction r.at, c.row_count-rows.ensures r.transaction r.at) r.pending

pub invariant_of-self : goal.invariant_of-self
invariant_of-self c =
    let f = of_some c.in_ok-place.field-0 _ _ c.in-Some.place c.in-Some.is c.in_ok-place.ensures.ok in
    let r = ready c.args.self.now.subtasks c.args.self.now.transactions.items c.args.self.now.committed c.args.self.now.shares.items c.args.transaction c.in-Some.place (PreCommitted f.0) c.args.self.now.kept f.1 refl in
    record { kept = kept-settled c.args.self.now.subtasks c.args.self.now.transactions.items c.set_progress.new.transactions.items c.args.self.now.committed c.push.new.self c.args.self.now.shares.items c.commit_rows.new.shares.items c.args.transaction c.in-Some.place f.0 r c.args.self.now.kept (c.set_progress.ensures r.transaction r.at) c.push.ensures c.subtask_of-subtask.result c.row_count-rows.result (c.subtask_of-subtask.ensures r.transaction r.at) (c.row_count-rows.ensures r.transaction r.at) c.commit_rows.ensures.share c.commit_rows.ensures.others }
