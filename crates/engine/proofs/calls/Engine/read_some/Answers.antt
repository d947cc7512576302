use Rattle.std.proofs.Common.{refl, ◌+◌, arith}
use Rattle.engine_model.proofs.RulesOf.{rules_of}
use Rattle.engine.proofs.ReadingRows.{turn_kept, turn_moves, turn_counted}
use Rattle.engine.proofs.Serving.{partitions_there}
use Rattle.engine_model.proofs.Sounds.{keeps_as_fresh, sound_as_fresh}
use Rattle.engine.proofs.calls.Engine.read_some.Goals as goal

pub read_some-count-requires-clause-partitions : goal.read_some-count-requires-clause-partitions
read_some-count-requires-clause-partitions g c = partitions_there _ _ c.self.invariant c.in-Some.attempt c.in-Some.is

pub invariant_of-self-2 : goal.invariant_of-self-2
invariant_of-self-2 g c =
    rw (c.read_some-count.ensures.same, c.leave-end.ensures.left)
    (turn_kept _ c.args.task _ c.args.most _ c.self.invariant c.in-Some.attempt c.read_some-count.new.attempt c.in-Some.is _ _ c.read_some-count.ensures.ends).0

pub returns-clause-goes : goal.returns-clause-goes
returns-clause-goes g c =
    rw (← c.self.view_is, c.leave-end.ensures.left)
    (turn_kept _ c.args.task 0 c.args.most _ c.self.invariant c.in-Some.attempt c.read_some-count.new.attempt c.in-Some.is _ _ c.read_some-count.ensures.ends).1

pub returns-clause-plain : goal.returns-clause-plain
returns-clause-plain g c =
    rw (← c.self.view_is, c.read_some-count.ensures.same, c.leave-end.ensures.left)
    (turn_moves _ c.args.task 0 c.args.most _ c.self.invariant c.in-Some.attempt c.read_some-count.new.attempt c.in-Some.is _ _ c.read_some-count.ensures.ends)

pub returns-clause-ends : goal.returns-clause-ends
returns-clause-ends g c =
    rw (← c.self.view_is, c.in-Some.is, c.read_some-count.ensures.same, c.leave-end.ensures.left, c.leave-end.ensures.answer)
    ((c.read_some-count.new.attempt, c.read_some-count.ensures.ends, refl), λ none. absurd cc)

pub returns-clause-sound : goal.returns-clause-sound
returns-clause-sound g c =
    rw (← c.self.view_is, c.read_some-count.ensures.same, c.leave-end.ensures.left)
    (λ sound. sound_as_fresh _ _ (turn_kept _ c.args.task _ c.args.most _ (keeps_as_fresh _ _ c.self.invariant sound) c.in-Some.attempt c.read_some-count.new.attempt c.in-Some.is _ _ c.read_some-count.ensures.ends).0)

pub returns-clause-counted : goal.returns-clause-counted
returns-clause-counted g c =
    let P = g.P.Partitions in
    let S = g.S.SnapshotStore in
    let X = g.X.Transactions in
    let s = c.self.inside in
    let new = c.read_some-count.new in
    rw (← c.self.view_is, c.leave-end.ensures.answer)
    (turn_counted (rules_of g.O.Operator g.O.Key.Ord g.O.Record.Codec g.O.Key.Codec g.O.State.Codec) c.args.task s.graph (P.records s.log) (P.fault_count s.log + S.fault_count s.store + X.fault_count s.transactions) (P.fault_count new.log + S.fault_count s.store + X.fault_count s.transactions) c.args.most c.in-Some.attempt new.attempt _ _ c.read_some-count.ensures.ends
    (λ is. omega (arith, c.read_some-count.ensures.counted is)) (λ other. omega (arith, c.read_some-count.ensures.told other)))
