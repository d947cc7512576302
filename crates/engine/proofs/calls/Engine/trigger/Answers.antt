use Rattle.std.proofs.Common.{◌+◌, arith}
use Rattle.engine_model.proofs.Calls.Triggers.{keeps_trigger}
use Rattle.engine.proofs.Plain.{trigger_stays}
use Rattle.engine_model.proofs.Sounds.{keeps_as_fresh, sound_as_fresh}
use Rattle.engine.proofs.Counting.{trigger_counted}
use Rattle.engine.proofs.calls.Engine.trigger.Goals as goal

pub invariant_of-self-2 : goal.invariant_of-self-2
invariant_of-self-2 g c =
    rw c.leave.ensures.left
    (keeps_trigger _ _ c.self.invariant c.in-Some.attempt c.in-Some.is c.trigger-outcome.new.attempt (g.S.SnapshotStore.state c.trigger-outcome.new.store) _ (g.met.S.SnapshotStore.numbered c.trigger-outcome.new.store) c.trigger-outcome.result c.trigger-outcome.ensures.ends).0

pub returns-clause-goes : goal.returns-clause-goes
returns-clause-goes g c =
    rw (← c.self.view_is, c.leave.ensures.left)
    (keeps_trigger _ _ c.self.invariant c.in-Some.attempt c.in-Some.is c.trigger-outcome.new.attempt (g.S.SnapshotStore.state c.trigger-outcome.new.store) 0 (g.met.S.SnapshotStore.numbered c.trigger-outcome.new.store) c.trigger-outcome.result c.trigger-outcome.ensures.ends).1

pub returns-clause-stays : goal.returns-clause-stays
returns-clause-stays g c =
    rw (← c.self.view_is, c.leave.ensures.left)
    (trigger_stays _ _ c.self.invariant c.in-Some.attempt c.trigger-outcome.new.attempt c.in-Some.is (g.S.SnapshotStore.state c.trigger-outcome.new.store) c.trigger-outcome.result c.trigger-outcome.ensures.ends)

pub returns-clause-sound : goal.returns-clause-sound
returns-clause-sound g c =
    rw (← c.self.view_is, c.leave.ensures.left)
    (λ sound. sound_as_fresh _ _ (keeps_trigger _ _ (keeps_as_fresh _ _ c.self.invariant sound) c.in-Some.attempt c.in-Some.is c.trigger-outcome.new.attempt (g.S.SnapshotStore.state c.trigger-outcome.new.store) _ (g.met.S.SnapshotStore.numbered c.trigger-outcome.new.store) c.trigger-outcome.result c.trigger-outcome.ensures.ends).0)

pub returns-clause-counted : goal.returns-clause-counted
returns-clause-counted g c =
    let P = g.P.Partitions in
    let S = g.S.SnapshotStore in
    let X = g.X.Transactions in
    let s = c.self.inside in
    let new = c.trigger-outcome.new in
    rw (← c.self.view_is, c.leave.ensures.answer)
    (trigger_counted c.in-Some.attempt new.attempt (S.state s.store) (S.state new.store) (P.fault_count s.log + S.fault_count s.store + X.fault_count s.transactions) (P.fault_count s.log + S.fault_count new.store + X.fault_count s.transactions) c.trigger-outcome.result c.trigger-outcome.ensures.ends
    (λ is. omega (arith, c.trigger-outcome.ensures.counted is)) (λ other. omega (arith, c.trigger-outcome.ensures.told other)))
