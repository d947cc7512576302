use Rattle.std.proofs.Common.{rules, ◌<◌, length, take, refl, arith}
use Rattle.std.proofs.lemmas.List.{take_more}
use Rattle.task_part.specs.Spelling.{part_spelling}
use Rattle.engine.proofs.Raising.{sound_exact}
use Rattle.dataflow_core.proofs.Preserving.{of_none, of_both}
use Rattle.dataflow_core.proofs.Running.{run_more}
use Rattle.engine_model.proofs.RulesOf.{rules_of}
use Rattle.dataflow_core.proofs.calls.Core.run_steps.Goals as goal

pub returns-then-is_err-clause-exact : goal.returns-then-is_err-clause-exact
returns-then-is_err-clause-exact g c = λ sound. sound_exact _ _ c.is_fresh.ensures.kept sound

pub returns-then-is_err-clause-step : goal.returns-then-is_err-clause-step
returns-then-is_err-clause-step g c = of_none _ _ _ refl

pub returns-clause-exact : goal.returns-clause-exact
returns-clause-exact g c = λ sound. sound_exact _ _ c.is_fresh-2.ensures.kept (c.loop-step.invariant.step.sound sound)

-- the replies so far, and one more
pub loop-step-preserved : goal.loop-step-preserved
loop-step-preserved g c =
    let within : c.loop-step.step-index < length c.args.steps.now = omega arith in
    record {
      run = rw (take_more c.args.steps.now c.loop-step.step-index c.step-item.result within, ← c.step-item.is, c.push_reserved.ensures.items)
          (run_more (rules_of g.O.Operator g.O.Key.Ord g.O.Record.Codec g.O.Key.Codec g.O.State.Codec) (part_spelling g.O.Record.Codec.spelling g.O.Key.Codec.spelling g.O.State.Codec.spelling) (take c.loop-step.step-index c.args.steps.now) c.loop-step.replies.items c.args.self.now c.loop-step.self _ c.args.desk.now c.loop-step.desk _ c.step-item.result c.step-reply.result c.loop-step.invariant.run c.step-reply.ensures.ends);
      count = search rules;
      room = search rules;
      step = of_both _ _ _ _ c.loop-step.invariant.step c.step-reply.ensures.step;
    }
