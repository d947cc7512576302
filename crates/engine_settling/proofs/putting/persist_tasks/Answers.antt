use Rattle.std.proofs.Common.{◌≡◌, true, ap, arith, ◌∙◌, length, refl}
use Rattle.coordinator.specs.Coordinator.{has_acked}
use Rattle.job_graph.specs.Expanded.{Expanded}
use Rattle.engine_settling.proofs.Bringing.{brings_none, brings_both, part_early, holds_running, graph_same}
use Rattle.engine_settling.proofs.Looping.{acks_start, acks_ended, acks_more, acks_all}
use Rattle.engine_settling.specs.Advancing.{HaveEnded, HaveAcked}
use Rattle.engine_model.proofs.RulesOf.{rules_of}
use Rattle.engine_settling.proofs.putting.persist_tasks.Goals as goal

pub loop-task-init : goal.loop-task-init
loop-task-init g c =
    let rules = rules_of g.O.Operator g.O.Key.Ord g.O.Record.Codec g.O.Key.Codec g.O.State.Codec in record {
      brings = brings_none rules c.args.engine.now (holds_running c.args.engine.now HaveEnded c.requires.ended);
      so_far = acks_start rules c.args.engine.now c.requires.ended;
      faults = refl;
    }

pub persist_task-requires-clause-ended : goal.persist_task-requires-clause-ended
persist_task-requires-clause-ended g c =
    let rules = rules_of g.O.Operator g.O.Key.Ord g.O.Record.Codec g.O.Key.Codec g.O.State.Codec in
    acks_ended rules c.loop-task.engine c.loop-task.task c.loop-task.invariant.so_far

pub persist_task-requires-clause-within : goal.persist_task-requires-clause-within
persist_task-requires-clause-within g c =
    let rules = rules_of g.O.Operator g.O.Key.Ord g.O.Record.Codec g.O.Key.Codec g.O.State.Codec in
    let b = c.loop-task.invariant.brings in
    let same = ap (λ (x : Expanded). length x.tasks) (graph_same rules b.moves c.args.engine.now c.loop-task.engine b.works) in
    omega (arith, same, c.loop-task-test.true, c.tasks-task-end.ensures.count, ap (λ (x : Expanded). length x.tasks) c.graph.ensures)

pub loop-task-preserved : goal.loop-task-preserved
loop-task-preserved g c =
    let rules = rules_of g.O.Operator g.O.Key.Ord g.O.Record.Codec g.O.Key.Codec g.O.State.Codec in
    let one = c.in-Ok.ensures.ends in record {
      brings = brings_both rules c.args.engine.now c.loop-task.engine c.persist_task.new.engine c.loop-task.invariant.brings one.0;
      so_far = acks_more rules c.loop-task.engine c.persist_task.new.engine c.loop-task.task one.0 c.loop-task.invariant.so_far one.1;
      faults = c.in-Ok.ensures.counted ∙ c.loop-task.invariant.faults;
    }

pub returns-in-Err-clause-ends : goal.returns-in-Err-clause-ends
returns-in-Err-clause-ends g c =
    let rules = rules_of g.O.Operator g.O.Key.Ord g.O.Record.Codec g.O.Key.Codec g.O.State.Codec in
    part_early rules c.args.engine.now c.loop-task.engine c.persist_task.new.engine (λ graph h. has_acked h.coordination c.loop-task.task ≡ true) HaveAcked c.in-Err.fault c.loop-task.invariant.brings c.in-Err.ensures.ends

pub returns-clause-ends : goal.returns-clause-ends
returns-clause-ends g c =
    let rules = rules_of g.O.Operator g.O.Key.Ord g.O.Record.Codec g.O.Key.Codec g.O.State.Codec in
    let b = c.loop-task.invariant.brings in
    let same = ap (λ (x : Expanded). length x.tasks) (graph_same rules b.moves c.args.engine.now c.loop-task.engine b.works) in
    (b, acks_all rules c.loop-task.engine c.loop-task.task (omega (arith, same, c.loop-task-test.false, c.tasks-task-end.ensures.count, ap (λ (x : Expanded). length x.tasks) c.graph.ensures)) c.loop-task.invariant.so_far)
