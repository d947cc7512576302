use Rattle.engine_settling.specs.Advancing.{HaveEnded, HaveAcked}
use Rattle.engine_settling.proofs.Chained.{settle_early, settle_uncompleted, settle_by, rests_by}
use Rattle.engine_model.proofs.RulesOf.{rules_of}
use Rattle.engine_settling.proofs.settling.settle.Goals as goal

pub returns-in-Err-clause-ends : goal.returns-in-Err-clause-ends
returns-in-Err-clause-ends g c =
    let rules = rules_of g.O.Operator g.O.Key.Ord g.O.Record.Codec g.O.Key.Codec g.O.State.Codec in
    settle_early rules c.args.engine.now c.put_parts.new.engine (λ graph h. HaveEnded graph h × HaveAcked graph h) c.in-Err.fault c.in-Err.ensures.ends

pub returns-in-Err-complete-clause-ends : goal.returns-in-Err-complete-clause-ends
returns-in-Err-complete-clause-ends g c =
    let rules = rules_of g.O.Operator g.O.Key.Ord g.O.Record.Codec g.O.Key.Codec g.O.State.Codec in
    settle_uncompleted rules c.args.engine.now c.put_parts.new.engine c.complete.new.engine c.in-Err-complete.fault c.in-Ok.ensures.ends.0 c.in-Err-complete.ensures.ends

pub returns-clause-ends : goal.returns-clause-ends
returns-clause-ends g c =
    let rules = rules_of g.O.Operator g.O.Key.Ord g.O.Record.Codec g.O.Key.Codec g.O.State.Codec in
    settle_by rules c.args.engine.now c.put_parts.new.engine c.complete.new.engine c.commit_sinks.new.engine c.in-Ok.ensures.ends.0 c.in-Ok-complete.ensures.ends c.is_fresh.ensures.kept c.commit_sinks.result c.commit_sinks.ensures.ends

pub returns-clause-rests : goal.returns-clause-rests
returns-clause-rests g c =
    let rules = rules_of g.O.Operator g.O.Key.Ord g.O.Record.Codec g.O.Key.Codec g.O.State.Codec in
    rests_by rules c.args.engine.now c.put_parts.new.engine c.complete.new.engine c.commit_sinks.new.engine c.in-Ok.ensures.ends.0 c.in-Ok-complete.ensures.ends c.is_fresh.ensures.kept c.commit_sinks.result c.commit_sinks.ensures.ends
