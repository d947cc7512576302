use Rattle.std.proofs.Common.{false, ap, arith, refl, length, sym, subst, slice_get, ◌∙◌}
use Rattle.job_graph.specs.Expanded.{Expanded, IsExpanded}
use Rattle.engine_settling.specs.Advancing.{IsPending, HaveSourcesCopied, HaveCopied, HaveCome}
use Rattle.engine_settling.proofs.Bringing.{brings_none, brings_both, part_early, holds_running, graph_same}
use Rattle.engine_settling.proofs.Looping.{copies_start, copies_sent, copies_more, copies_all}
use Rattle.engine_settling.proofs.Ordering.{order_length}
use Rattle.engine_model.proofs.RulesOf.{rules_of}
use Rattle.engine_settling.proofs.aligning.copy_tasks.Goals as goal

pub loop-place-init : goal.loop-place-init
loop-place-init g c =
    let rules = rules_of g.O.Operator g.O.Key.Ord g.O.Record.Codec g.O.Key.Codec g.O.State.Codec in record {
      brings = brings_none rules c.args.engine.now (holds_running c.args.engine.now (λ graph h. IsPending h × HaveSourcesCopied graph h) c.requires.sources);
      so_far = copies_start rules c.args.engine.now c.requires.sources;
      faults = refl;
    }

pub task_at-task-requires : goal.task_at-task-requires
task_at-task-requires g c =
    let rules = rules_of g.O.Operator g.O.Key.Ord g.O.Record.Codec g.O.Key.Codec g.O.State.Codec in
    let b = c.loop-place.invariant.brings in
    let same = graph_same rules b.moves c.args.engine.now c.loop-place.engine b.works in
    let expanded : IsExpanded c.args.engine.now.graph = rw c.graph.ensures at c.tasks-place-end.ensures.expanded in
    omega (arith, order_length c.args.engine.now.graph expanded, ap (λ (x : Expanded). length x.order) same, ap (λ (x : Expanded). length x.order) c.graph-in-loop-place.ensures, c.loop-place-test.true, c.tasks-place-end.ensures.count, ap (λ (x : Expanded). length x.tasks) c.graph.ensures)

pub take_inputs-requires : goal.take_inputs-requires
take_inputs-requires g c =
    let rules = rules_of g.O.Operator g.O.Key.Ord g.O.Record.Codec g.O.Key.Codec g.O.State.Codec in
    let b = c.loop-place.invariant.brings in
    let same = graph_same rules b.moves c.args.engine.now c.loop-place.engine b.works in
    let expanded : IsExpanded c.args.engine.now.graph = rw c.graph.ensures at c.tasks-place-end.ensures.expanded in
    record { sent = copies_sent rules c.loop-place.engine c.loop-place.place c.task_at-task.result (subst IsExpanded (sym same) expanded) (ap (λ (x : Expanded). slice_get x.order c.loop-place.place) (sym c.graph-in-loop-place.ensures) ∙ c.task_at-task.ensures) c.loop-place.invariant.so_far }

pub returns-in-Err-clause-ends : goal.returns-in-Err-clause-ends
returns-in-Err-clause-ends g c =
    let rules = rules_of g.O.Operator g.O.Key.Ord g.O.Record.Codec g.O.Key.Codec g.O.State.Codec in
    part_early rules c.args.engine.now c.loop-place.engine c.take_inputs.new.engine (λ graph h. HaveCome graph h false c.task_at-task.result) HaveCopied c.in-Err.fault c.loop-place.invariant.brings c.in-Err.ensures.ends

pub loop-place-preserved : goal.loop-place-preserved
loop-place-preserved g c =
    let rules = rules_of g.O.Operator g.O.Key.Ord g.O.Record.Codec g.O.Key.Codec g.O.State.Codec in
    let one = c.in-Ok.ensures.ends in
    let graphs = graph_same rules one.0.moves c.loop-place.engine c.take_inputs.new.engine one.0.works in record {
      brings = brings_both rules c.args.engine.now c.loop-place.engine c.take_inputs.new.engine c.loop-place.invariant.brings one.0;
      so_far = copies_more rules c.loop-place.engine c.take_inputs.new.engine c.loop-place.place c.task_at-task.result one.0 c.is_fresh.ensures.kept (ap (λ (x : Expanded). slice_get x.order c.loop-place.place) (graphs ∙ sym c.graph-in-loop-place.ensures) ∙ c.task_at-task.ensures) c.loop-place.invariant.so_far one.1;
      faults = c.in-Ok.ensures.counted ∙ c.loop-place.invariant.faults;
    }

pub returns-clause-ends : goal.returns-clause-ends
returns-clause-ends g c =
    let rules = rules_of g.O.Operator g.O.Key.Ord g.O.Record.Codec g.O.Key.Codec g.O.State.Codec in
    let b = c.loop-place.invariant.brings in
    let same = graph_same rules b.moves c.args.engine.now c.loop-place.engine b.works in
    let expanded : IsExpanded c.args.engine.now.graph = rw c.graph.ensures at c.tasks-place-end.ensures.expanded in
    (b, copies_all rules c.loop-place.engine c.loop-place.place (subst IsExpanded (sym same) expanded) (omega (arith, ap (λ (x : Expanded). length x.tasks) same, c.loop-place-test.false, c.tasks-place-end.ensures.count, ap (λ (x : Expanded). length x.tasks) c.graph.ensures)) c.loop-place.invariant.so_far)
