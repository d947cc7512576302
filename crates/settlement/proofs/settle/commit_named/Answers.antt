use Rattle.std.proofs.Common.{rules, get_or, arith}
use Rattle.std.proofs.lemmas.Option.{slice_get-get_or}
use Rattle.settlement.proofs.Settling.{commit_next, commit_stops}
use Rattle.settlement.proofs.settle.commit_named.Goals as goal

pub loop-name-preserved : goal.loop-name-preserved
loop-name-preserved g c =
    let names = c.args.names.now in
    let i = c.loop-name.name-index in
    let X = g.X.Transactions in
    let old = c.loop-name.transactions in
    let new = c.commit.new.self in
    record {
      turns = commit_next names i (get_or names i 0) (X.fault_count old) (X.fault_count new) (X.state c.args.transactions.now) (X.state old) (X.state new) (slice_get-get_or names i 0 (omega arith)) c.loop-name.invariant.turns (g.met.X.Transactions.ordered new) (search rules);
      same = search rules;
      counted = search rules;
    }

pub returns-in-Err-clause-ends : goal.returns-in-Err-clause-ends
returns-in-Err-clause-ends g c =
    let names = c.args.names.now in
    let i = c.loop-name.name-index in
    let X = g.X.Transactions in
    let old = c.loop-name.transactions in
    let new = c.commit.new.self in
    rw c.commit_fault.ensures
    (commit_stops names i (get_or names i 0) (X.fault_count old) (X.fault_count new) (X.state c.args.transactions.now) (X.state old) (X.state new) c.in-Err.fault (slice_get-get_or names i 0 (omega arith)) c.loop-name.invariant.turns (g.met.X.Transactions.ordered new) (search rules) c.in-Err.ensures.ends)
