use Rattle.std.proofs.Common.{rules, arith, length, get_or, ap, [], ◌∷◌}
use Rattle.std.proofs.lemmas.List.{length-append}
use Rattle.std.proofs.lemmas.Option.{slice_get-get_or}
use Rattle.job_graph.specs.declared.role.Role.TheVariants.{Source}
use Rattle.recovery.proofs.Starting.{task_stops, starts_more}
use Rattle.engine_model.proofs.RulesOf.{rules_of}
use Rattle.recovery.proofs.parts.starts_at.Goals as goal

pub loop-task-preserved : goal.loop-task-preserved
loop-task-preserved g c =
    let starts = c.loop-task.starts.items in
    let st = c.in_ok-start.start in
    record {
      len = omega (arith, ap length c.in_ok-push.ensures.items, length-append starts (st ∷ []), c.loop-task.invariant.len);
      each = rw c.in_ok-push.ensures.items (starts_more (rules_of g.O.Operator g.O.Key.Ord g.O.Record.Codec g.O.Key.Codec g.O.State.Codec) c.args.graph.now c.args.operators.now (g.P.Partitions.records c.args.log.now) (g.S.SnapshotStore.state c.args.store.now) c.args.last starts c.loop-task.task st c.loop-task.invariant.len c.loop-task.invariant.each (λ q is. let ends = c.in_ok-start.ensures.ends q is in search (rules, ends)));
      same = search rules;
      counted = search rules;
    }

pub returns-in_err-start-clause-ends : goal.returns-in_err-start-clause-ends
returns-in_err-start-clause-ends g c =
    let tasks = c.args.graph.now.tasks in
    let as_many = c.tasks-task-end.ensures.count in
    let r = get_or tasks c.loop-task.task (Source 0) in
    let is = slice_get-get_or tasks c.loop-task.task (Source 0) (omega (arith, as_many)) in
    let ends = c.in_err-start.ensures.ends r is in
    let stops = task_stops (rules_of g.O.Operator g.O.Key.Ord g.O.Record.Codec g.O.Key.Codec g.O.State.Codec) c.args.graph.now c.args.operators.now (g.P.Partitions.records c.args.log.now) (g.S.SnapshotStore.state c.args.store.now) c.args.last c.loop-task.task r c.in_err-start.field-0.0 c.requires is (search (rules, ends)) in
    search (rules, stops)
