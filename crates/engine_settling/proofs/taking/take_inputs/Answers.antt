use Rattle.std.proofs.Common.{ap, arith, refl, length, ◌∙◌}
use Rattle.job_graph.specs.Expanded.{Expanded, inputs_of}
use Rattle.engine_rounds.proofs.Idling.{inputs_few}
use Rattle.engine_settling.specs.Advancing.{IsPending, HaveSendersCopied, HaveCome}
use Rattle.engine_settling.specs.Awaiting.{HasCome}
use Rattle.engine_settling.proofs.Bringing.{brings_none, brings_both, part_early, holds_running, graph_same}
use Rattle.engine_settling.proofs.Looping.{inputs_start, inputs_sent, inputs_more, inputs_all}
use Rattle.engine_model.proofs.RulesOf.{rules_of}
use Rattle.engine_settling.proofs.taking.take_inputs.Goals as goal

pub overflow_cast-inputs : goal.overflow_cast-inputs
overflow_cast-inputs g c =
    let few = inputs_few c.args.engine.now.graph c.args.task c.is_fresh.ensures.kept.expanded in
    let same = c.inputs.ensures ∙ ap (λ (x : Expanded). inputs_of x c.args.task) c.graph.ensures in
    omega (arith, few, ap length same)

pub loop-input-init : goal.loop-input-init
loop-input-init g c =
    let rules = rules_of g.O.Operator g.O.Key.Ord g.O.Record.Codec g.O.Key.Codec g.O.State.Codec in record {
      brings = brings_none rules c.args.engine.now (holds_running c.args.engine.now (λ graph h. IsPending h × HaveSendersCopied graph h c.args.marked c.args.task) c.requires.sent);
      so_far = inputs_start rules c.args.marked c.args.task c.args.engine.now c.requires.sent;
      faults = refl;
    }

pub take_input-requires : goal.take_input-requires
take_input-requires g c =
    let rules = rules_of g.O.Operator g.O.Key.Ord g.O.Record.Codec g.O.Key.Codec g.O.State.Codec in record { sent = inputs_sent rules c.args.marked c.args.task c.loop-input.engine c.loop-input.input c.loop-input.invariant.so_far }

pub loop-input-preserved : goal.loop-input-preserved
loop-input-preserved g c =
    let rules = rules_of g.O.Operator g.O.Key.Ord g.O.Record.Codec g.O.Key.Codec g.O.State.Codec in
    let one = c.in-Ok.ensures.ends in record {
      brings = brings_both rules c.args.engine.now c.loop-input.engine c.take_input.new.engine c.loop-input.invariant.brings one.0;
      so_far = inputs_more rules c.args.marked c.args.task c.loop-input.engine c.take_input.new.engine c.loop-input.input one.0 c.loop-input.invariant.so_far one.1;
      faults = c.in-Ok.ensures.counted ∙ c.loop-input.invariant.faults;
    }

pub returns-in-Err-clause-ends : goal.returns-in-Err-clause-ends
returns-in-Err-clause-ends g c =
    let rules = rules_of g.O.Operator g.O.Key.Ord g.O.Record.Codec g.O.Key.Codec g.O.State.Codec in
    part_early rules c.args.engine.now c.loop-input.engine c.take_input.new.engine (λ graph h. HasCome graph h c.args.task c.loop-input.input c.args.marked) (λ graph h. HaveCome graph h c.args.marked c.args.task) c.in-Err.fault c.loop-input.invariant.brings c.in-Err.ensures.ends

pub returns-clause-ends : goal.returns-clause-ends
returns-clause-ends g c =
    let rules = rules_of g.O.Operator g.O.Key.Ord g.O.Record.Codec g.O.Key.Codec g.O.State.Codec in
    let b = c.loop-input.invariant.brings in
    let graphs = graph_same rules b.moves c.args.engine.now c.loop-input.engine b.works in
    let same = c.inputs.ensures ∙ ap (λ (x : Expanded). inputs_of x c.args.task) c.graph.ensures in
    (b, inputs_all rules c.args.marked c.args.task c.loop-input.engine c.loop-input.input (omega (arith, ap length same, ap (λ (x : Expanded). length (inputs_of x c.args.task)) graphs, c.loop-input-test.false)) c.loop-input.invariant.so_far)
