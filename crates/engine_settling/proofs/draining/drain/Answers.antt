use Rattle.std.proofs.Common.{Ok, subst}
use Rattle.engine_rounds.specs.Turns.{EndsRounds}
use Rattle.engine_rounds.specs.declared.ending.Drained.{Drained}
use Rattle.engine_settling.proofs.Chained.{drain_spent, drain_rounds, drain_rests, drain_ends}
use Rattle.engine_model.proofs.RulesOf.{rules_of}
use Rattle.engine_settling.proofs.draining.drain.Goals as goal

pub returns-in-Ok-TurnsSpent-clause-ends : goal.returns-in-Ok-TurnsSpent-clause-ends
returns-in-Ok-TurnsSpent-clause-ends g c =
    let rules = rules_of g.O.Operator g.O.Key.Ord g.O.Record.Codec g.O.Key.Codec g.O.State.Codec in
    let start = c.in-Ok.ensures.ends in
    drain_spent rules c.args.engine.now c.settle_pending.new.engine c.rounds.new.engine c.args.turns start.0 start.1
    (subst (λ (d : Drained). EndsRounds rules c.settle_pending.new.engine c.rounds.new.engine c.args.turns (Ok d)) c.in-Ok-TurnsSpent.field-0-is c.in-Ok-TurnsSpent.ensures.ends)

pub returns-in-Err-rounds-clause-ends : goal.returns-in-Err-rounds-clause-ends
returns-in-Err-rounds-clause-ends g c =
    let rules = rules_of g.O.Operator g.O.Key.Ord g.O.Record.Codec g.O.Key.Codec g.O.State.Codec in
    drain_rounds rules c.args.engine.now c.settle_pending.new.engine c.rounds.new.engine c.args.turns c.in-Err-rounds.fault c.in-Ok.ensures.ends.0 c.in-Err-rounds.ensures.ends

pub returns-in-Ok-end_at_rest-clause-ends : goal.returns-in-Ok-end_at_rest-clause-ends
returns-in-Ok-end_at_rest-clause-ends g c =
    let rules = rules_of g.O.Operator g.O.Key.Ord g.O.Record.Codec g.O.Key.Codec g.O.State.Codec in
    drain_rests rules c.args.engine.now c.settle_pending.new.engine c.rounds.new.engine c.end_at_rest.new.engine c.is_fresh.ensures.kept c.args.turns c.in-Ok.ensures.ends.0
    (subst (λ (d : Drained). EndsRounds rules c.settle_pending.new.engine c.rounds.new.engine c.args.turns (Ok d)) c.in-Ok-AtRest.field-0-is c.in-Ok-AtRest.ensures.ends) c.in-Ok-end_at_rest.ensures.ends

pub returns-in-Err-end_at_rest-clause-ends : goal.returns-in-Err-end_at_rest-clause-ends
returns-in-Err-end_at_rest-clause-ends g c =
    let rules = rules_of g.O.Operator g.O.Key.Ord g.O.Record.Codec g.O.Key.Codec g.O.State.Codec in
    drain_ends rules c.args.engine.now c.settle_pending.new.engine c.rounds.new.engine c.end_at_rest.new.engine c.args.turns c.in-Err-end_at_rest.fault c.in-Ok.ensures.ends.0
    (subst (λ (d : Drained). EndsRounds rules c.settle_pending.new.engine c.rounds.new.engine c.args.turns (Ok d)) c.in-Ok-AtRest.field-0-is c.in-Ok-AtRest.ensures.ends) c.in-Err-end_at_rest.ensures.ends
