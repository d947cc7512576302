use Rattle.std.proofs.Common.{◌+◌, arith, refl}
use Rattle.engine_model.proofs.Calls.Completes.{keeps_complete}
use Rattle.engine_model.proofs.Complete.Cuts.{cut_if_ok}
use Rattle.engine_model.proofs.Complete.Reached.{reached_if_ok}
use Rattle.engine_model.proofs.Store.Complete.{coordinator_completes}
use Rattle.engine.proofs.Plain.{complete_stays}
use Rattle.engine.proofs.Serving.{completes, whole}
use Rattle.engine_model.proofs.Sounds.{keeps_as_fresh, sound_as_fresh}
use Rattle.engine.proofs.Counting.{complete_counted}
use Rattle.engine.proofs.calls.Engine.complete.Goals as goal

pub complete-outcome-requires-clause-may : goal.complete-outcome-requires-clause-may
complete-outcome-requires-clause-may g c = completes _ _ c.self.invariant c.in-Some.attempt c.in-Some.is

pub complete-outcome-requires-clause-ready : goal.complete-outcome-requires-clause-ready
complete-outcome-requires-clause-ready g c = λ n pending ready. coordinator_completes (c.in-Some.attempt).coordination n pending ready

pub invariant_of-self-2 : goal.invariant_of-self-2
invariant_of-self-2 g c =
    rw c.leave.ensures.left
    (keeps_complete _ _ c.self.invariant c.in-Some.attempt c.in-Some.is c.complete-outcome.new.attempt (g.S.SnapshotStore.state c.complete-outcome.new.store) _ (g.met.S.SnapshotStore.numbered c.complete-outcome.new.store) c.complete-outcome.result c.complete-outcome.ensures.ends).0

pub returns-clause-goes : goal.returns-clause-goes
returns-clause-goes g c =
    rw (← c.self.view_is, c.leave.ensures.left)
    (keeps_complete _ _ c.self.invariant c.in-Some.attempt c.in-Some.is c.complete-outcome.new.attempt (g.S.SnapshotStore.state c.complete-outcome.new.store) 0 (g.met.S.SnapshotStore.numbered c.complete-outcome.new.store) c.complete-outcome.result c.complete-outcome.ensures.ends).1

pub returns-clause-stays : goal.returns-clause-stays
returns-clause-stays g c =
    rw (← c.self.view_is, c.leave.ensures.left)
    (complete_stays _ _ c.self.invariant c.in-Some.attempt c.complete-outcome.new.attempt c.in-Some.is (g.S.SnapshotStore.state c.complete-outcome.new.store) c.complete-outcome.result c.complete-outcome.ensures.ends)

pub returns-clause-whole : goal.returns-clause-whole
returns-clause-whole g c = rw c.leave.ensures.answer (whole _ _ c.self.invariant c.in-Some.attempt c.in-Some.is (g.S.SnapshotStore.state c.complete-outcome.new.store) c.complete-outcome.new.attempt c.complete-outcome.result c.complete-outcome.ensures.ends)

pub returns-clause-cut : goal.returns-clause-cut
returns-clause-cut g c =
    rw (← c.self.view_is, c.leave.ensures.answer)
    (cut_if_ok _ _ c.self.invariant c.in-Some.attempt c.in-Some.is c.complete-outcome.new.attempt (g.S.SnapshotStore.state c.complete-outcome.new.store) c.complete-outcome.result c.complete-outcome.ensures.ends)

pub returns-clause-sound : goal.returns-clause-sound
returns-clause-sound g c =
    rw (← c.self.view_is, c.leave.ensures.left)
    (λ sound. sound_as_fresh _ _ (keeps_complete _ _ (keeps_as_fresh _ _ c.self.invariant sound) c.in-Some.attempt c.in-Some.is c.complete-outcome.new.attempt (g.S.SnapshotStore.state c.complete-outcome.new.store) _ (g.met.S.SnapshotStore.numbered c.complete-outcome.new.store) c.complete-outcome.result c.complete-outcome.ensures.ends).0)

pub returns-clause-counted : goal.returns-clause-counted
returns-clause-counted g c =
    let P = g.P.Partitions in
    let S = g.S.SnapshotStore in
    let X = g.X.Transactions in
    let s = c.self.inside in
    let new = c.complete-outcome.new in
    rw (← c.self.view_is, c.leave.ensures.answer)
    (complete_counted c.in-Some.attempt new.attempt (S.state s.store) (S.state new.store) (P.fault_count s.log + S.fault_count s.store + X.fault_count s.transactions) (P.fault_count s.log + S.fault_count new.store + X.fault_count s.transactions) c.complete-outcome.result c.complete-outcome.ensures.ends
    (λ is. omega (arith, c.complete-outcome.ensures.counted is)) (λ other. omega (arith, c.complete-outcome.ensures.told other)))

pub returns-clause-reached : goal.returns-clause-reached
returns-clause-reached g c =
    rw (← c.self.view_is, c.leave.ensures.answer)
    (λ sound. reached_if_ok _ _ (keeps_as_fresh _ _ c.self.invariant sound) refl c.in-Some.attempt c.in-Some.is c.complete-outcome.new.attempt (g.S.SnapshotStore.state c.complete-outcome.new.store) (g.met.S.SnapshotStore.numbered c.complete-outcome.new.store) c.complete-outcome.result c.complete-outcome.ensures.ends)
