use Rattle.std.proofs.Common.{sym, ◌∙◌, refl}
use Rattle.engine_model.proofs.Numbers.{none_past}
use Rattle.engine_moves.proofs.Reading.{known_for, read_moves}
use Rattle.engine_moves.proofs.reads.read_at.Goals as goal

-- nothing stands at the offset, so it is past the end
pub returns-in-Ok-None-clause-ends : goal.returns-in-Ok-None-clause-ends
returns-in-Ok-None-clause-ends g c =
    let past = none_past _ c.args.offset (sym c.in-Ok-None.ensures.row ∙ c.in-Ok-None.field-0-is) in
    (c.args.partition, c.args.offset, c.requires.source, c.requires.holds, past, refl)

pub read-requires-2-clause-known : goal.read-requires-2-clause-known
read-requires-2-clause-known g c = known_for g.O.Operator.meaning c.args.graph.now c.args.task c.in-Ok-Some.row c.args.known c.requires.known

pub returns-clause-moved : goal.returns-clause-moved
returns-clause-moved g c =
    read_moves g.O.Operator.meaning c.args.graph.now c.args.task c.args.offset c.in-Ok-Some.row c.args.attempt.now c.read-2.new.self c.requires.holds c.in_ok-read.ensures.ok
