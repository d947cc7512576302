use Rattle.std.proofs.Common.{ap}
use Rattle.commit_sink.specs.Ledger.{Ledger, committed_rows}
use Rattle.engine_rounds.proofs.Many.{begins_same}
use Rattle.engine_settling.proofs.Ending.{complete_done, complete_fails}
use Rattle.engine_model.proofs.RulesOf.{rules_of}
use Rattle.engine_settling.proofs.putting.complete.Goals as goal

pub returns-in-Ok-clause-ends : goal.returns-in-Ok-clause-ends
returns-in-Ok-clause-ends g c =
    let rules = rules_of g.O.Operator g.O.Key.Ord g.O.Record.Codec g.O.Key.Codec g.O.State.Codec in
    let old = c.args.engine.now in
    let new = c.complete.new.self in
    complete_done rules old new c.is_fresh.ensures.kept
    (record {
      goes = c.in-Ok.ensures.goes;
      sound = c.in-Ok.ensures.sound;
      begins = λ task subtask at. begins_same (committed_rows old.ledger subtask) (committed_rows new.ledger subtask) (ap (λ (l : Ledger). committed_rows l subtask) c.in-Ok.ensures.ledger);
    })
    c.in-Ok.ensures.stays c.requires.acked c.in-Ok.field-0 c.in-Ok.ensures.ends c.in-Ok.ensures.cut

pub returns-in-Err-clause-ends : goal.returns-in-Err-clause-ends
returns-in-Err-clause-ends g c =
    let rules = rules_of g.O.Operator g.O.Key.Ord g.O.Record.Codec g.O.Key.Codec g.O.State.Codec in
    let old = c.args.engine.now in
    let new = c.complete.new.self in
    complete_fails rules old new c.is_fresh.ensures.kept
    (record {
      goes = c.in-Err.ensures.goes;
      sound = c.in-Err.ensures.sound;
      begins = λ task subtask at. begins_same (committed_rows old.ledger subtask) (committed_rows new.ledger subtask) (ap (λ (l : Ledger). committed_rows l subtask) c.in-Err.ensures.ledger);
    })
    c.in-Err.ensures.stays c.requires.acked c.in-Err.fault c.in-Err.ensures.ends
