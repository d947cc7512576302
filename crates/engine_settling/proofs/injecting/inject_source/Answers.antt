use Rattle.std.proofs.Common.{ap}
use Rattle.commit_sink.specs.Ledger.{Ledger, committed_rows}
use Rattle.engine_rounds.proofs.Many.{begins_same}
use Rattle.engine_settling.proofs.Bringing.{counted_done}
use Rattle.engine_settling.proofs.Parts.{inject_part}
use Rattle.engine_model.proofs.RulesOf.{rules_of}
use Rattle.engine_settling.proofs.injecting.inject_source.Goals as goal

pub returns-clause-ends : goal.returns-clause-ends
returns-clause-ends g c =
    let rules = rules_of g.O.Operator g.O.Key.Ord g.O.Record.Codec g.O.Key.Codec g.O.State.Codec in
    let old = c.args.engine.now in
    let new = c.inject.new.self in
    rw c.done.ensures
    (inject_part rules old new c.is_fresh.ensures.kept
    (record {
      goes = c.inject.ensures.goes;
      sound = c.inject.ensures.sound;
      begins = λ task subtask at. begins_same (committed_rows old.ledger subtask) (committed_rows new.ledger subtask) (ap (λ (l : Ledger). committed_rows l subtask) c.inject.ensures.ledger);
    })
    c.inject.ensures.stays c.args.task c.requires.source c.requires.pending c.inject.result c.inject.ensures.ends)

pub returns-clause-counted : goal.returns-clause-counted
returns-clause-counted g c = rw c.done.ensures (counted_done c.args.engine.now.faults c.inject.new.self.faults c.inject.result c.inject.ensures.counted)
