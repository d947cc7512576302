use Rattle.std.proofs.Common.{ap, ◌∙◌, length, arith}
use Rattle.job_graph.specs.Expanded.{Expanded, inputs_of}
use Rattle.engine_rounds.proofs.Idling.{without_input, idle_without}
use Rattle.engine_rounds.proofs.turns.has_input.Goals as goal

pub returns-clause-some : goal.returns-clause-some
returns-clause-some g c =
    let same = c.inputs-channel-items.ensures ∙ ap (λ (x : Expanded). inputs_of x c.args.task) c.graph.ensures in
    (λ told. absurd cc, λ has. absurd (without_input c.args.engine.now c.args.task c.loop-channel.channel-index (omega (arith, ap length same, c.loop-channel-test.false)) c.loop-channel.invariant has))

pub returns-clause-none : goal.returns-clause-none
returns-clause-none g c = λ told.
    let same = c.inputs-channel-items.ensures ∙ ap (λ (x : Expanded). inputs_of x c.args.task) c.graph.ensures in
    idle_without c.args.engine.now c.args.task c.requires.worker c.requires.running
    (without_input c.args.engine.now c.args.task c.loop-channel.channel-index (omega (arith, ap length same, c.loop-channel-test.false)) c.loop-channel.invariant)
