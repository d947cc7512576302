use Rattle.std.proofs.Common.{ap}
use Rattle.commit_sink.specs.Ledger.{Ledger, committed_rows}
use Rattle.engine_model.specs.Language.{language}
use Rattle.engine_rounds.proofs.Many.{begins_same}
use Rattle.engine_rounds.proofs.Turning.{read_turns}
use Rattle.engine_rounds.proofs.Waiting.{read_turn_waits}
use Rattle.engine_model.proofs.RulesOf.{rules_of}
use Rattle.engine_rounds.proofs.turns.read_turn.Goals as goal

pub returns-clause-ends : goal.returns-clause-ends
returns-clause-ends g c =
    let lang = language g.O.Operator.meaning g.O.Key.Ord.cmp g.O.Record.Codec.spelling g.O.Record.Codec.reading g.O.Key.Codec.reading g.O.State.Codec.reading in
    let old = c.args.engine.now in
    let new = c.read.new.self in
    rw c.turned.ensures
    (read_turns (rules_of g.O.Operator g.O.Key.Ord g.O.Record.Codec g.O.Key.Codec g.O.State.Codec) old new c.args.task
    (record {
      goes = c.read.ensures.goes;
      sound = c.read.ensures.sound;
      begins = λ task subtask at. begins_same (committed_rows old.ledger subtask) (committed_rows new.ledger subtask) (ap (λ (l : Ledger). committed_rows l subtask) c.read.ensures.ledger);
    })
    c.requires.running c.requires.source c.read.result c.read.ensures.ends c.read.ensures.plain c.read.ensures.counted)

pub returns-clause-pending : goal.returns-clause-pending
returns-clause-pending g c =
    rw c.turned.ensures
    (read_turn_waits c.args.engine.now c.read.new.self (language g.O.Operator.meaning g.O.Key.Ord.cmp g.O.Record.Codec.spelling g.O.Record.Codec.reading g.O.Key.Codec.reading g.O.State.Codec.reading) c.args.task c.requires.running c.read.result c.read.ensures.ends)
