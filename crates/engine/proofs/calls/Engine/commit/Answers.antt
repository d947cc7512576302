use Rattle.std.proofs.Common.{◌+◌, [], sym, refl, arith, append-nil}
use Rattle.commit_sink.specs.Ledger.{committed_rows}
use Rattle.engine_model.proofs.Calls.Commits.{keeps_commit}
use Rattle.engine.proofs.Serving.{reaches}
use Rattle.engine_plain.proofs.PlainCommits.{plain_commit}
use Rattle.engine.proofs.Plain.{withdraws}
use Rattle.engine_model.proofs.Sounds.{keeps_as_fresh, sound_as_fresh}
use Rattle.engine.proofs.Counting.{commit_counts}
use Rattle.engine.proofs.calls.Engine.commit.Goals as goal

pub invariant_of-self-2 : goal.invariant_of-self-2
invariant_of-self-2 g c =
    rw c.leave.ensures.left
    (keeps_commit _ _ c.self.invariant c.in-Some.attempt c.in-Some.is c.args.sink c.commit-outcome.new.attempt (g.X.Transactions.state c.commit-outcome.new.transactions) _ c.commit-outcome.result c.commit-outcome.ensures.ends).0

pub returns-clause-goes : goal.returns-clause-goes
returns-clause-goes g c =
    rw (← c.self.view_is, c.leave.ensures.left)
    (keeps_commit _ _ c.self.invariant c.in-Some.attempt c.in-Some.is c.args.sink c.commit-outcome.new.attempt (g.X.Transactions.state c.commit-outcome.new.transactions) 0 c.commit-outcome.result c.commit-outcome.ensures.ends).1

pub returns-clause-stays : goal.returns-clause-stays
returns-clause-stays g c =
    rw (← c.self.view_is, c.leave.ensures.left)
    (plain_commit _ _ c.in-Some.attempt c.commit-outcome.new.attempt 0 c.args.sink (g.X.Transactions.state c.commit-outcome.new.transactions) c.self.invariant c.in-Some.is c.commit-outcome.result c.commit-outcome.ensures.ends)

pub returns-clause-reaches : goal.returns-clause-reaches
returns-clause-reaches g c =
    rw (← c.self.view_is, c.leave.ensures.answer)
    (λ sound. reaches _ _ c.self.invariant c.in-Some.attempt c.in-Some.is sound c.args.sink c.commit-outcome.new.attempt (g.X.Transactions.state c.commit-outcome.new.transactions) c.commit-outcome.result c.commit-outcome.ensures.ends)

pub returns-clause-begins : goal.returns-clause-begins
returns-clause-begins g c =
    rw (← c.self.view_is)
    (withdraws _ _ c.self.invariant (g.X.Transactions.state c.commit-outcome.new.transactions) _ 0 (g.met.X.Transactions.ordered c.commit-outcome.new.transactions) (keeps_commit _ _ c.self.invariant c.in-Some.attempt c.in-Some.is c.args.sink c.commit-outcome.new.attempt (g.X.Transactions.state c.commit-outcome.new.transactions) 0 c.commit-outcome.result c.commit-outcome.ensures.ends).1)

pub returns-clause-sound : goal.returns-clause-sound
returns-clause-sound g c =
    rw (← c.self.view_is, c.leave.ensures.left)
    (λ sound. sound_as_fresh _ _ (keeps_commit _ _ (keeps_as_fresh _ _ c.self.invariant sound) c.in-Some.attempt c.in-Some.is c.args.sink c.commit-outcome.new.attempt (g.X.Transactions.state c.commit-outcome.new.transactions) _ c.commit-outcome.result c.commit-outcome.ensures.ends).0)

pub returns-clause-counted : goal.returns-clause-counted
returns-clause-counted g c =
    let P = g.P.Partitions in
    let S = g.S.SnapshotStore in
    let X = g.X.Transactions in
    let s = c.self.inside in
    let new = c.commit-outcome.new in
    rw (← c.self.view_is, c.leave.ensures.answer)
    (commit_counts s.graph c.args.sink c.in-Some.attempt new.attempt (P.fault_count s.log + S.fault_count s.store + X.fault_count s.transactions) (P.fault_count s.log + S.fault_count s.store + X.fault_count new.transactions) (X.state s.transactions) (X.state new.transactions) c.commit-outcome.result c.commit-outcome.ensures.ends
    (λ is. omega (arith, c.commit-outcome.ensures.counted is)) (λ other. omega (arith, c.commit-outcome.ensures.told other)))

pub returns-in_default-clause-begins : goal.returns-in_default-clause-begins
returns-in_default-clause-begins g c =
    rw (← c.self.view_is)
    (λ task subtask at. ([], sym (append-nil (committed_rows (g.X.Transactions.state c.self.inside.transactions) subtask))))

pub returns-clause-ends : goal.returns-clause-ends
returns-clause-ends g c =
    rw (← c.self.view_is, c.in-Some.is, c.leave.ensures.left, c.leave.ensures.answer)
    (c.commit-outcome.new.attempt, c.commit-outcome.ensures.ends, refl)
