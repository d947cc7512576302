use Rattle.std.proofs.Common.{ap, length, arith, ◌∙◌}
use Rattle.job_graph.specs.Expanded.{Expanded, inputs_of}
use Rattle.engine_rounds.proofs.Idling.{inputs_few, works_at, idle_inputs}
use Rattle.engine_rounds.proofs.turns.work_turn.Goals as goal

pub overflow_cast-inputs : goal.overflow_cast-inputs
overflow_cast-inputs g c =
    let few = inputs_few c.args.engine.now.graph c.args.task (rw c.graph.ensures at c.tasks.ensures.expanded) in
    let same = c.inputs.ensures ∙ ap (λ (x : Expanded). inputs_of x c.args.task) c.graph-2.ensures in
    omega (arith, few, ap length same)

pub work_at-requires-clause-input : goal.work_at-requires-clause-input
work_at-requires-clause-input g c =
    let same = c.inputs.ensures ∙ ap (λ (x : Expanded). inputs_of x c.args.task) c.graph-2.ensures in
    rw c.loop-input.invariant.same (works_at c.args.engine.now.graph c.args.task c.loop-input.input c.requires.worker (omega (arith, ap length same, c.loop-input-test.true)))

pub returns-clause-ends : goal.returns-clause-ends
returns-clause-ends g c =
    let same = c.inputs.ensures ∙ ap (λ (x : Expanded). inputs_of x c.args.task) c.graph-2.ensures in
    (idle_inputs c.args.engine.now c.args.task c.requires.worker c.requires.running c.loop-input.input (omega (arith, ap length same, c.loop-input-test.false)) c.loop-input.invariant.nothing, c.loop-input.invariant.same)
