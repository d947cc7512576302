use Rattle.std.proofs.Common.{refl, ◌+◌, arith}
use Rattle.engine_model.proofs.Calls.Reads.{keeps_read}
use Rattle.engine_model.specs.Language.{language}
use Rattle.engine.proofs.Plain.{read_is_plain}
use Rattle.engine.proofs.Serving.{partitions_there}
use Rattle.engine_model.proofs.Sounds.{keeps_as_fresh, sound_as_fresh}
use Rattle.engine.proofs.Counting.{read_counted}
use Rattle.engine.proofs.calls.Engine.read.Goals as goal

pub read_next-outcome-requires-clause-partitions : goal.read_next-outcome-requires-clause-partitions
read_next-outcome-requires-clause-partitions g c = partitions_there _ _ c.self.invariant c.in-Some.attempt c.in-Some.is

pub invariant_of-self-2 : goal.invariant_of-self-2
invariant_of-self-2 g c =
    rw (c.read_next-outcome.ensures.same, c.leave.ensures.left)
    (keeps_read _ _ c.in-Some.attempt c.read_next-outcome.new.attempt _ c.args.task c.self.invariant c.in-Some.is c.read_next-outcome.result c.read_next-outcome.ensures.fits c.read_next-outcome.ensures.ends).0

pub returns-clause-goes : goal.returns-clause-goes
returns-clause-goes g c =
    rw (← c.self.view_is, c.leave.ensures.left)
    (keeps_read _ _ c.in-Some.attempt c.read_next-outcome.new.attempt 0 c.args.task c.self.invariant c.in-Some.is c.read_next-outcome.result c.read_next-outcome.ensures.fits c.read_next-outcome.ensures.ends).1

pub returns-clause-plain : goal.returns-clause-plain
returns-clause-plain g c =
    rw (← c.self.view_is, c.read_next-outcome.ensures.same, c.leave.ensures.left, c.leave.ensures.answer)
    (read_is_plain _ _ c.self.invariant c.in-Some.attempt c.read_next-outcome.new.attempt c.in-Some.is _ c.args.task c.read_next-outcome.result c.read_next-outcome.ensures.ends)

pub returns-clause-ends : goal.returns-clause-ends
returns-clause-ends g c =
    rw (← c.self.view_is, c.in-Some.is, c.read_next-outcome.ensures.same, c.leave.ensures.left, c.leave.ensures.answer)
    (c.read_next-outcome.new.attempt, c.read_next-outcome.ensures.ends, refl)

pub returns-clause-sound : goal.returns-clause-sound
returns-clause-sound g c =
    rw (← c.self.view_is, c.read_next-outcome.ensures.same, c.leave.ensures.left)
    (λ sound. sound_as_fresh _ _ (keeps_read _ _ c.in-Some.attempt c.read_next-outcome.new.attempt _ c.args.task (keeps_as_fresh _ _ c.self.invariant sound) c.in-Some.is c.read_next-outcome.result c.read_next-outcome.ensures.fits c.read_next-outcome.ensures.ends).0)

pub returns-clause-counted : goal.returns-clause-counted
returns-clause-counted g c =
    let P = g.P.Partitions in
    let S = g.S.SnapshotStore in
    let X = g.X.Transactions in
    let s = c.self.inside in
    let new = c.read_next-outcome.new in
    rw (← c.self.view_is, c.leave.ensures.answer)
    (read_counted s.graph c.args.task c.in-Some.attempt new.attempt (P.fault_count s.log + S.fault_count s.store + X.fault_count s.transactions) (P.fault_count new.log + S.fault_count s.store + X.fault_count s.transactions) (language g.O.Operator.meaning g.O.Key.Ord.cmp g.O.Record.Codec.spelling g.O.Record.Codec.reading g.O.Key.Codec.reading g.O.State.Codec.reading) c.read_next-outcome.result (P.records s.log) c.read_next-outcome.ensures.ends
    (λ is. omega (arith, c.read_next-outcome.ensures.counted is)) (λ other. omega (arith, c.read_next-outcome.ensures.told other)))
