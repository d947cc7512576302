use Rattle.std.proofs.Common.{rules}
use Rattle.settlement.proofs.Settling.{begin_stops}
use Rattle.settlement.proofs.settle.settle_sink.Goals as goal

pub returns-clause-ends : goal.returns-clause-ends
returns-clause-ends g c =
    let X = g.X.Transactions in
    let named = c.commit_named.new.transactions in
    let rest = c.abort_all.new.transactions in
    let new = c.begin.new.self in
    rw c.call_fault-in-Err-begin.ensures
    (begin_stops c.args.names.now c.args.subtask (X.fault_count rest) (X.fault_count new) (X.state c.args.transactions.now) (X.state named) (X.state rest) (X.state new) c.in-Err-begin.fault c.in_ok-commit_named.ensures.ends (search rules) (g.met.X.Transactions.ordered new) c.in-Err-begin.ensures.ends)
