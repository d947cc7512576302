use Rattle.std.proofs.Common.{ap}
use Rattle.commit_sink.specs.Ledger.{Ledger, committed_rows}
use Rattle.engine_rounds.proofs.Many.{begins_same}
use Rattle.engine_rounds.proofs.Turning.{Calls}
use Rattle.engine_settling.proofs.Chained.{trigger_made, trigger_still, trigger_is, trigger_fails, rest_settles}
use Rattle.engine_model.proofs.RulesOf.{rules_of}
use Rattle.engine_settling.proofs.draining.end_at_rest.Goals as goal

pub returns-in-Ok-clause-ends : goal.returns-in-Ok-clause-ends
returns-in-Ok-clause-ends g c =
    let rules = rules_of g.O.Operator g.O.Key.Ord g.O.Record.Codec g.O.Key.Codec g.O.State.Codec in
    let old = c.args.engine.now in
    let middle = c.trigger.new.self in
    let e = c.in-Ok.ensures in
    let calls : Calls rules old middle = record { goes = e.goes; sound = e.sound; begins = λ task subtask at. begins_same (committed_rows old.ledger subtask) (committed_rows middle.ledger subtask) (ap (λ (l : Ledger). committed_rows l subtask) e.ledger) } in
    rest_settles rules old middle c.settle.new.engine c.in-Ok.field-0 c.settle.result
    (trigger_made rules old middle c.is_fresh.ensures.kept calls e.stays c.requires.running c.requires.none_pending c.in-Ok.field-0 e.ends)
    (trigger_still rules old middle c.is_fresh.ensures.kept calls e.stays c.requires.running c.requires.none_pending c.requires.idle c.in-Ok.field-0 e.ends)
    (trigger_is rules old middle c.is_fresh.ensures.kept calls e.stays c.requires.running c.requires.none_pending c.in-Ok.field-0 e.ends)
    c.settle.ensures.ends c.settle.ensures.rests

pub returns-in-Err-clause-ends : goal.returns-in-Err-clause-ends
returns-in-Err-clause-ends g c =
    let rules = rules_of g.O.Operator g.O.Key.Ord g.O.Record.Codec g.O.Key.Codec g.O.State.Codec in
    let old = c.args.engine.now in
    let new = c.trigger.new.self in
    let e = c.in-Err.ensures in
    let calls : Calls rules old new = record { goes = e.goes; sound = e.sound; begins = λ task subtask at. begins_same (committed_rows old.ledger subtask) (committed_rows new.ledger subtask) (ap (λ (l : Ledger). committed_rows l subtask) e.ledger) } in
    trigger_fails rules old new c.is_fresh.ensures.kept calls e.stays c.requires.running c.requires.none_pending c.in-Err.fault e.ends
