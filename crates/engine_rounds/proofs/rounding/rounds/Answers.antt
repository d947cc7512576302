use Rattle.std.proofs.Common.{◌∙◌, refl}
use Rattle.engine_rounds.proofs.Taking.{took_none, took_on, took_round, stopped_on}
use Rattle.engine_model.proofs.RulesOf.{rules_of}
use Rattle.engine_rounds.proofs.rounding.rounds.Goals as goal

pub spending-init : goal.spending-init
spending-init g c = record {
  made = took_none (rules_of g.O.Operator g.O.Key.Ord g.O.Record.Codec g.O.Key.Codec g.O.State.Codec) c.args.engine.now c.args.turns c.requires.running;
  faults = refl;
  pending = refl;
}

pub spending-preserved : goal.spending-preserved
spending-preserved g c =
    let all = rules_of g.O.Operator g.O.Key.Ord g.O.Record.Codec g.O.Key.Codec g.O.State.Codec in
    let one = took_round all c.spending.engine c.round.new.engine c.spending.left c.round.new.left c.in-Ok-true.field-0 c.in-Ok-true.field-0-test c.in-Ok-true.ensures.ends in
    record {
      made = took_on all c.args.engine.now c.spending.engine c.round.new.engine c.args.turns c.spending.left c.round.new.left c.spending.invariant.made one;
      faults = c.in-Ok-true.ensures.counted ∙ c.spending.invariant.faults;
      pending = c.in-Ok-true.ensures.pending ∙ c.spending.invariant.pending;
    }

pub returns-in-Err-clause-ends : goal.returns-in-Err-clause-ends
returns-in-Err-clause-ends g c =
    let ends = c.in-Err.ensures.ends in
    stopped_on (rules_of g.O.Operator g.O.Key.Ord g.O.Record.Codec g.O.Key.Codec g.O.State.Codec) c.args.engine.now c.spending.engine c.round.new.engine c.args.turns c.spending.left c.in-Err.fault
    c.spending.invariant.made ends.0 ends.1 ends.2 ends.3
