use Rattle.std.proofs.Common.{[], ◌∙◌, refl, arith}
use Rattle.engine_rounds.proofs.Taking.{took_none, took_on, idle_on, stopped_on}
use Rattle.engine_model.proofs.RulesOf.{rules_of}
use Rattle.engine_rounds.proofs.rounding.round.Goals as goal

pub loop-task-init : goal.loop-task-init
loop-task-init g c = record {
  made = took_none (rules_of g.O.Operator g.O.Key.Ord g.O.Record.Codec g.O.Key.Codec g.O.State.Codec) c.args.engine.now c.args.left.now c.requires.running;
  idle = λ same. (refl, λ t below. absurd (omega (arith, below)));
  faults = refl;
  pending = refl;
}

pub loop-task-preserved : goal.loop-task-preserved
loop-task-preserved g c =
    let all = rules_of g.O.Operator g.O.Key.Ord g.O.Record.Codec g.O.Key.Codec g.O.State.Codec in
    let made = c.loop-task.invariant.made in
    let turn = c.in-Ok.ensures.ends in
    record {
      made = took_on all c.args.engine.now c.loop-task.engine c.take_turn.new.engine c.args.left.now c.loop-task.left c.take_turn.new.left made turn.0;
      idle = idle_on all c.args.engine.now c.loop-task.engine c.take_turn.new.engine c.loop-task.task c.args.left.now c.loop-task.left c.take_turn.new.left made turn.0 turn.1 c.loop-task.invariant.idle;
      faults = c.in-Ok.ensures.counted ∙ c.loop-task.invariant.faults;
      pending = c.in-Ok.ensures.pending ∙ c.loop-task.invariant.pending;
    }

pub returns-in-Err-clause-ends : goal.returns-in-Err-clause-ends
returns-in-Err-clause-ends g c =
    stopped_on (rules_of g.O.Operator g.O.Key.Ord g.O.Record.Codec g.O.Key.Codec g.O.State.Codec) c.args.engine.now c.loop-task.engine c.take_turn.new.engine c.args.left.now c.loop-task.left c.in-Err.fault
    c.loop-task.invariant.made [] (omega arith) c.in-Err.ensures.ends.0 c.in-Err.ensures.ends.1
