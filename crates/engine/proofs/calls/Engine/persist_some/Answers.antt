use Rattle.std.proofs.Common.{refl, ◌+◌, arith}
use Rattle.task_part.specs.Spelling.{part_spelling}
use Rattle.engine_model.proofs.Calls.Persists.{keeps_persist_some}
use Rattle.engine.proofs.Plain.{persist_some_stays}
use Rattle.engine_model.proofs.Sounds.{keeps_as_fresh, sound_as_fresh}
use Rattle.engine.proofs.Counting.{persist_some_counted}
use Rattle.engine.proofs.calls.Engine.persist_some.Goals as goal

pub invariant_of-self-2 : goal.invariant_of-self-2
invariant_of-self-2 g c =
    rw c.leave.ensures.left
    (keeps_persist_some _ _ c.self.invariant c.in-Some.attempt c.in-Some.is c.args.task c.persist_some-outcome.new.attempt (g.S.SnapshotStore.state c.persist_some-outcome.new.store) _ (part_spelling g.O.Record.Codec.spelling g.O.Key.Codec.spelling g.O.State.Codec.spelling) (g.met.S.SnapshotStore.numbered c.persist_some-outcome.new.store) c.persist_some-outcome.result c.persist_some-outcome.ensures.readable c.persist_some-outcome.ensures.ends).0

pub returns-clause-goes : goal.returns-clause-goes
returns-clause-goes g c =
    rw (← c.self.view_is, c.leave.ensures.left)
    (keeps_persist_some _ _ c.self.invariant c.in-Some.attempt c.in-Some.is c.args.task c.persist_some-outcome.new.attempt (g.S.SnapshotStore.state c.persist_some-outcome.new.store) 0 (part_spelling g.O.Record.Codec.spelling g.O.Key.Codec.spelling g.O.State.Codec.spelling) (g.met.S.SnapshotStore.numbered c.persist_some-outcome.new.store) c.persist_some-outcome.result c.persist_some-outcome.ensures.readable c.persist_some-outcome.ensures.ends).1

pub returns-clause-stays : goal.returns-clause-stays
returns-clause-stays g c =
    rw (← c.self.view_is, c.leave.ensures.left)
    (persist_some_stays _ _ c.self.invariant c.in-Some.attempt c.persist_some-outcome.new.attempt c.in-Some.is (g.S.SnapshotStore.state c.persist_some-outcome.new.store) c.args.task (part_spelling g.O.Record.Codec.spelling g.O.Key.Codec.spelling g.O.State.Codec.spelling) c.persist_some-outcome.result c.persist_some-outcome.ensures.ends)

pub returns-clause-sound : goal.returns-clause-sound
returns-clause-sound g c =
    rw (← c.self.view_is, c.leave.ensures.left)
    (λ sound. sound_as_fresh _ _ (keeps_persist_some _ _ (keeps_as_fresh _ _ c.self.invariant sound) c.in-Some.attempt c.in-Some.is c.args.task c.persist_some-outcome.new.attempt (g.S.SnapshotStore.state c.persist_some-outcome.new.store) _ (part_spelling g.O.Record.Codec.spelling g.O.Key.Codec.spelling g.O.State.Codec.spelling) (g.met.S.SnapshotStore.numbered c.persist_some-outcome.new.store) c.persist_some-outcome.result c.persist_some-outcome.ensures.readable c.persist_some-outcome.ensures.ends).0)

pub returns-clause-ends : goal.returns-clause-ends
returns-clause-ends g c =
    rw (← c.self.view_is, c.in-Some.is, c.leave.ensures.left, c.leave.ensures.answer)
    (c.persist_some-outcome.new.attempt, c.persist_some-outcome.ensures.ends, refl)

pub returns-clause-counted : goal.returns-clause-counted
returns-clause-counted g c =
    let P = g.P.Partitions in
    let S = g.S.SnapshotStore in
    let X = g.X.Transactions in
    let s = c.self.inside in
    let new = c.persist_some-outcome.new in
    rw (← c.self.view_is, c.leave.ensures.answer)
    (persist_some_counted s.graph c.args.task c.in-Some.attempt new.attempt (P.fault_count s.log + S.fault_count s.store + X.fault_count s.transactions) (P.fault_count s.log + S.fault_count new.store + X.fault_count s.transactions) (S.state s.store) (S.state new.store) (part_spelling g.O.Record.Codec.spelling g.O.Key.Codec.spelling g.O.State.Codec.spelling) c.persist_some-outcome.result c.persist_some-outcome.ensures.ends
    (λ is. omega (arith, c.persist_some-outcome.ensures.counted is)) (λ other. omega (arith, c.persist_some-outcome.ensures.told other)))
