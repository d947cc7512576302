use Rattle.std.proofs.Common.{ap, ◌∙◌}
use Rattle.claims.specs.Carried.{records_of}
use Rattle.engine_rounds.proofs.Turning.{offered_due, offered_single}
use Rattle.engine_settling.proofs.Works.{await_runs, await_works, offer_part, accept_part, accept_falls}
use Rattle.engine_model.proofs.RulesOf.{rules_of}
use Rattle.engine_settling.proofs.taking.work_first.Goals as goal

pub returns-in-Ok-clause-ends : goal.returns-in-Ok-clause-ends
returns-in-Ok-clause-ends g c =
    let rules = rules_of g.O.Operator g.O.Key.Ord g.O.Record.Codec g.O.Key.Codec g.O.State.Codec in
    let due = offered_due rules c.args.engine.now c.args.task c.args.input (await_runs rules c.args.engine.now c.is_fresh.ensures.kept c.args.task c.args.input c.args.channel c.requires.awaited) (await_works rules c.args.engine.now c.is_fresh.ensures.kept c.args.task c.args.input c.args.channel c.requires.awaited) c.in-Ok.work c.in-Ok.ensures in
    let one = offered_single rules c.args.engine.now c.args.task c.args.input (await_runs rules c.args.engine.now c.is_fresh.ensures.kept c.args.task c.args.input c.args.channel c.requires.awaited) (await_works rules c.args.engine.now c.is_fresh.ensures.kept c.args.task c.args.input c.args.channel c.requires.awaited) c.in-Ok.work c.in-Ok.ensures in
    accept_part rules c.args.engine.now c.is_fresh.ensures.kept c.args.task c.args.input c.args.channel c.requires.awaited c.accept.new.self (record { goes = c.accept.ensures.goes; sound = c.accept.ensures.sound; begins = c.accept.ensures.begins }) c.run.result
    (rw (← c.run.ensures) at due) (ap records_of c.run.ensures ∙ one) c.accept.result c.accept.ensures.ends c.accept.ensures.plain

pub returns-in-Ok-clause-falls : goal.returns-in-Ok-clause-falls
returns-in-Ok-clause-falls g c =
    let rules = rules_of g.O.Operator g.O.Key.Ord g.O.Record.Codec g.O.Key.Codec g.O.State.Codec in
    let due = offered_due rules c.args.engine.now c.args.task c.args.input (await_runs rules c.args.engine.now c.is_fresh.ensures.kept c.args.task c.args.input c.args.channel c.requires.awaited) (await_works rules c.args.engine.now c.is_fresh.ensures.kept c.args.task c.args.input c.args.channel c.requires.awaited) c.in-Ok.work c.in-Ok.ensures in
    let one = offered_single rules c.args.engine.now c.args.task c.args.input (await_runs rules c.args.engine.now c.is_fresh.ensures.kept c.args.task c.args.input c.args.channel c.requires.awaited) (await_works rules c.args.engine.now c.is_fresh.ensures.kept c.args.task c.args.input c.args.channel c.requires.awaited) c.in-Ok.work c.in-Ok.ensures in
    accept_falls rules c.args.engine.now c.is_fresh.ensures.kept c.args.task c.args.input c.args.channel c.requires.awaited c.accept.new.self (record { goes = c.accept.ensures.goes; sound = c.accept.ensures.sound; begins = c.accept.ensures.begins }) c.run.result
    (rw (← c.run.ensures) at due) (ap records_of c.run.ensures ∙ one) c.accept.result c.accept.ensures.ends

pub returns-in-Err-clause-ends : goal.returns-in-Err-clause-ends
returns-in-Err-clause-ends g c =
    let rules = rules_of g.O.Operator g.O.Key.Ord g.O.Record.Codec g.O.Key.Codec g.O.State.Codec in
    offer_part rules c.args.engine.now c.is_fresh.ensures.kept c.args.task c.args.input c.args.channel c.requires.awaited c.in-Err.fault c.requires.head c.in-Err.ensures
