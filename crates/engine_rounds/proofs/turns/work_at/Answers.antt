use Rattle.std.proofs.Common.{ap, ◌∙◌}
use Rattle.engine_model.specs.Language.{language}
use Rattle.claims.specs.Carried.{records_of}
use Rattle.engine_rounds.proofs.Turning.{offered_due, offered_single, accept_turns}
use Rattle.engine_rounds.proofs.Waiting.{work_turn_waits}
use Rattle.engine_model.proofs.RulesOf.{rules_of}
use Rattle.engine_rounds.proofs.turns.work_at.Goals as goal

pub returns-in-Ok-clause-ends : goal.returns-in-Ok-clause-ends
returns-in-Ok-clause-ends g c =
    let all = rules_of g.O.Operator g.O.Key.Ord g.O.Record.Codec g.O.Key.Codec g.O.State.Codec in
    let old = c.args.engine.now in
    let due = offered_due all old c.args.task c.args.input c.requires.running c.requires.input c.in-Ok.work c.in-Ok.ensures in
    let one = offered_single all old c.args.task c.args.input c.requires.running c.requires.input c.in-Ok.work c.in-Ok.ensures in
    rw c.turned.ensures
    (accept_turns all old c.accept.new.self c.args.task c.args.input (record { goes = c.accept.ensures.goes; sound = c.accept.ensures.sound; begins = c.accept.ensures.begins }) c.requires.running c.run.result
    (rw (← c.run.ensures) at due) (ap records_of c.run.ensures ∙ one) c.accept.result c.accept.ensures.ends c.accept.ensures.plain)

pub returns-in-Ok-clause-pending : goal.returns-in-Ok-clause-pending
returns-in-Ok-clause-pending g c =
    let lang = language g.O.Operator.meaning g.O.Key.Ord.cmp g.O.Record.Codec.spelling g.O.Record.Codec.reading g.O.Key.Codec.reading g.O.State.Codec.reading in
    let one = offered_single (rules_of g.O.Operator g.O.Key.Ord g.O.Record.Codec g.O.Key.Codec g.O.State.Codec) c.args.engine.now c.args.task c.args.input c.requires.running c.requires.input c.in-Ok.work c.in-Ok.ensures in
    rw c.turned.ensures
    (work_turn_waits c.args.engine.now c.accept.new.self lang c.args.task c.args.input c.requires.running c.run.result (ap records_of c.run.ensures ∙ one) c.accept.result c.accept.ensures.ends)
