use Rattle.std.proofs.Common.{◌+◌, arith}
use Rattle.engine_model.proofs.Sounds.{keeps_as_fresh, sound_as_fresh}
use Rattle.engine.proofs.TaskCalls.{barrier_kept, barrier_stays}
use Rattle.engine.proofs.Plain.{withdraws}
use Rattle.engine.proofs.Counting.{barrier_counted}
use Rattle.engine.proofs.calls.Engine.take_barrier.Goals as goal

pub invariant_of-self-2 : goal.invariant_of-self-2
invariant_of-self-2 g c =
    rw c.leave.ensures.left
    (barrier_kept _ _ c.self.invariant c.in-Some.attempt c.take_barrier-outcome.new.attempt c.in-Some.is (g.X.Transactions.state c.take_barrier-outcome.new.transactions) c.args.task c.args.input c.take_barrier-outcome.result c.take_barrier-outcome.ensures.ends _ (g.met.X.Transactions.ordered c.take_barrier-outcome.new.transactions)).0

pub returns-clause-goes : goal.returns-clause-goes
returns-clause-goes g c =
    rw (← c.self.view_is, c.leave.ensures.left)
    (barrier_kept _ _ c.self.invariant c.in-Some.attempt c.take_barrier-outcome.new.attempt c.in-Some.is (g.X.Transactions.state c.take_barrier-outcome.new.transactions) c.args.task c.args.input c.take_barrier-outcome.result c.take_barrier-outcome.ensures.ends 0 (g.met.X.Transactions.ordered c.take_barrier-outcome.new.transactions)).1

pub returns-clause-sound : goal.returns-clause-sound
returns-clause-sound g c =
    rw (← c.self.view_is, c.leave.ensures.left)
    (λ sound. sound_as_fresh _ _ (barrier_kept _ _ (keeps_as_fresh _ _ c.self.invariant sound) c.in-Some.attempt c.take_barrier-outcome.new.attempt c.in-Some.is (g.X.Transactions.state c.take_barrier-outcome.new.transactions) c.args.task c.args.input c.take_barrier-outcome.result c.take_barrier-outcome.ensures.ends _ (g.met.X.Transactions.ordered c.take_barrier-outcome.new.transactions)).0)

pub returns-clause-stays : goal.returns-clause-stays
returns-clause-stays g c =
    rw (← c.self.view_is, c.leave.ensures.left)
    (barrier_stays _ _ c.self.invariant c.in-Some.attempt c.take_barrier-outcome.new.attempt c.in-Some.is (g.X.Transactions.state c.take_barrier-outcome.new.transactions) c.args.task c.args.input c.take_barrier-outcome.result c.take_barrier-outcome.ensures.ends)

pub returns-clause-begins : goal.returns-clause-begins
returns-clause-begins g c =
    rw (← c.self.view_is)
    (withdraws _ _ c.self.invariant (g.X.Transactions.state c.take_barrier-outcome.new.transactions) _ 0 (g.met.X.Transactions.ordered c.take_barrier-outcome.new.transactions) (barrier_kept _ _ c.self.invariant c.in-Some.attempt c.take_barrier-outcome.new.attempt c.in-Some.is (g.X.Transactions.state c.take_barrier-outcome.new.transactions) c.args.task c.args.input c.take_barrier-outcome.result c.take_barrier-outcome.ensures.ends 0 (g.met.X.Transactions.ordered c.take_barrier-outcome.new.transactions)).1)

pub returns-clause-counted : goal.returns-clause-counted
returns-clause-counted g c =
    let P = g.P.Partitions in
    let S = g.S.SnapshotStore in
    let X = g.X.Transactions in
    let s = c.self.inside in
    let new = c.take_barrier-outcome.new in
    rw (← c.self.view_is, c.leave.ensures.answer)
    (barrier_counted s.graph c.args.task c.in-Some.attempt new.attempt (P.fault_count s.log + S.fault_count s.store + X.fault_count s.transactions) (P.fault_count s.log + S.fault_count s.store + X.fault_count new.transactions) c.args.input (X.state s.transactions) (X.state new.transactions) c.take_barrier-outcome.result c.take_barrier-outcome.ensures.ends
    (λ is. omega (arith, c.take_barrier-outcome.ensures.counted is)) (λ other. omega (arith, c.take_barrier-outcome.ensures.told other)))
