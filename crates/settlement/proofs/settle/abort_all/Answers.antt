use Rattle.std.proofs.Common.{rules, None, get_or, arith}
use Rattle.std.proofs.lemmas.Option.{slice_get-get_or}
use Rattle.settlement.proofs.Settling.{abort_next, abort_stops, abort_counted}
use Rattle.settlement.proofs.settle.abort_all.Goals as goal

pub loop-transaction-preserved : goal.loop-transaction-preserved
loop-transaction-preserved g c =
    let left = c.args.unsettled.now in
    let i = c.loop-transaction.transaction-index in
    let n = get_or left i (0, None) in
    let X = g.X.Transactions in
    let old = c.loop-transaction.transactions in
    let new = c.abort.new.self in
    let next = abort_next left i c.args.subtask (X.fault_count old) (X.fault_count new) n (X.state c.args.transactions.now) (X.state old) (X.state new) (slice_get-get_or left i (0, None) (omega arith)) c.loop-transaction.invariant.turns (g.met.X.Transactions.ordered old) (g.met.X.Transactions.ordered new)
    c.loop-transaction.invariant.left (search rules) in
    record {
      turns = next.0;
      left = next.1;
      same = search rules;
      counted = search rules;
    }

pub returns-in-Err-clause-ends : goal.returns-in-Err-clause-ends
returns-in-Err-clause-ends g c =
    let left = c.args.unsettled.now in
    let i = c.loop-transaction.transaction-index in
    let n = get_or left i (0, None) in
    let X = g.X.Transactions in
    let old = c.loop-transaction.transactions in
    let new = c.abort.new.self in
    rw c.call_fault.ensures
    (abort_stops left i c.args.subtask (X.fault_count old) (X.fault_count new) n (X.state c.args.transactions.now) (X.state old) (X.state new) c.in-Err.fault (slice_get-get_or left i (0, None) (omega arith)) c.loop-transaction.invariant.turns (g.met.X.Transactions.ordered new) (search rules)
    c.loop-transaction.invariant.left c.in-Err.ensures.ends)

pub returns-in-Err-clause-counted : goal.returns-in-Err-clause-counted
returns-in-Err-clause-counted g c =
    let left = c.args.unsettled.now in
    let i = c.loop-transaction.transaction-index in
    let n = get_or left i (0, None) in
    let X = g.X.Transactions in
    let old = c.loop-transaction.transactions in
    let new = c.abort.new.self in
    λ is.
    let counted = abort_counted left i c.args.subtask (X.fault_count old) (X.fault_count new) n (X.state old) (X.state new) c.in-Err.fault (slice_get-get_or left i (0, None) (omega arith)) (search rules) c.loop-transaction.invariant.left c.in-Err.ensures.ends in
    omega (arith, counted, c.loop-transaction.invariant.counted)
