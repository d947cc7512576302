use Rattle.std.proofs.Common.{ap, arith, refl, length, ◌∙◌}
use Rattle.job_graph.specs.Expanded.{Expanded}
use Rattle.engine_model.specs.State.{State}
use Rattle.engine_settling.proofs.Chained.{commits_none, commits_both, commits_early, commit_next, committed_none, committed_all}
use Rattle.engine_model.proofs.RulesOf.{rules_of}
use Rattle.engine_settling.proofs.putting.commit_sinks.Goals as goal

pub loop-task-init : goal.loop-task-init
loop-task-init g c =
    let rules = rules_of g.O.Operator g.O.Key.Ord g.O.Record.Codec g.O.Key.Codec g.O.State.Codec in record {
      commits = commits_none rules c.args.engine.now c.requires.running;
      committed = λ sound. committed_none rules c.args.engine.now;
      faults = refl;
    }

pub commit_task-requires : goal.commit_task-requires
commit_task-requires g c = record { running = c.loop-task.invariant.commits.made.1.1 }

pub loop-task-preserved : goal.loop-task-preserved
loop-task-preserved g c =
    let rules = rules_of g.O.Operator g.O.Key.Ord g.O.Record.Codec g.O.Key.Codec g.O.State.Codec in
    let one = c.in-Ok.ensures.ends in record {
      commits = commits_both rules c.args.engine.now c.loop-task.engine c.commit_task.new.engine c.loop-task.invariant.commits one.0;
      committed = commit_next rules c.args.engine.now c.loop-task.engine c.commit_task.new.engine c.loop-task.task c.loop-task.invariant.committed c.loop-task.invariant.commits one;
      faults = c.in-Ok.ensures.counted ∙ c.loop-task.invariant.faults;
    }

pub returns-in-Err-clause-ends : goal.returns-in-Err-clause-ends
returns-in-Err-clause-ends g c =
    let rules = rules_of g.O.Operator g.O.Key.Ord g.O.Record.Codec g.O.Key.Codec g.O.State.Codec in
    commits_early rules c.args.engine.now c.loop-task.engine c.commit_task.new.engine c.loop-task.task c.in-Err.fault c.loop-task.invariant.commits c.in-Err.ensures.ends

pub returns-clause-ends : goal.returns-clause-ends
returns-clause-ends g c =
    let rules = rules_of g.O.Operator g.O.Key.Ord g.O.Record.Codec g.O.Key.Codec g.O.State.Codec in
    let commits = c.loop-task.invariant.commits in
    let same = ap (λ (s : State _ _ _ _). length s.graph.tasks) commits.made.1.0.same in
    (commits, λ sound. committed_all rules c.loop-task.engine c.loop-task.task (omega (arith, same, c.loop-task-test.false, c.tasks-task-end.ensures.count, ap (λ (x : Expanded). length x.tasks) c.graph.ensures)) (c.loop-task.invariant.committed sound))
