use Rattle.std.proofs.Common.{◌≢◌, None, ap, arith, ◌∙◌, length, slice_get, refl}
use Rattle.std.proofs.lemmas.Bool.{false≢true}
use Rattle.job_graph.specs.Expanded.{Expanded}
use Rattle.job_state.specs.Held.{copy_at}
use Rattle.engine_settling.specs.Advancing.{IsPending, HaveSourcesCopied}
use Rattle.engine_settling.proofs.Bringing.{brings_none, brings_both, part_early, holds_running, graph_same}
use Rattle.engine_settling.proofs.Looping.{sources_start, sources_pending, sources_more, sources_skip, sources_all}
use Rattle.engine_settling.proofs.injecting.inject_sources.Goals.{then-is_source+in-Ok, else-is_source}
use Rattle.engine_model.proofs.RulesOf.{rules_of}
use Rattle.engine_settling.proofs.injecting.inject_sources.Goals as goal

pub loop-task-init : goal.loop-task-init
loop-task-init g c =
    let rules = rules_of g.O.Operator g.O.Key.Ord g.O.Record.Codec g.O.Key.Codec g.O.State.Codec in record {
      brings = brings_none rules c.args.engine.now (holds_running c.args.engine.now (λ graph h. IsPending h) c.requires.pending);
      so_far = sources_start rules c.args.engine.now c.requires.pending;
      faults = refl;
    }

pub inject_source-requires-clause-pending : goal.inject_source-requires-clause-pending
inject_source-requires-clause-pending g c =
    let rules = rules_of g.O.Operator g.O.Key.Ord g.O.Record.Codec g.O.Key.Codec g.O.State.Codec in
    sources_pending rules c.loop-task.engine c.loop-task.task c.loop-task.invariant.so_far

pub returns-in-Err-clause-ends : goal.returns-in-Err-clause-ends
returns-in-Err-clause-ends g c =
    let rules = rules_of g.O.Operator g.O.Key.Ord g.O.Record.Codec g.O.Key.Codec g.O.State.Codec in
    part_early rules c.args.engine.now c.loop-task.engine c.inject_source.new.engine (λ graph h. copy_at h c.loop-task.task ≢ None) HaveSourcesCopied c.in-Err.fault c.loop-task.invariant.brings c.in-Err.ensures.ends

pub loop-task-preserved : goal.loop-task-preserved
loop-task-preserved g c =
    let rules = rules_of g.O.Operator g.O.Key.Ord g.O.Record.Codec g.O.Key.Codec g.O.State.Codec in
    elim c.if-is_source.branch [
      | then-is_source+in-Ok w ↦
          let one = w.in-Ok.ensures.ends in
          rw w.engine-is (record {
            brings = brings_both rules c.args.engine.now c.loop-task.engine w.inject_source.new.engine c.loop-task.invariant.brings one.0;
            so_far = sources_more rules c.loop-task.engine w.inject_source.new.engine c.loop-task.task one.0 c.loop-task.invariant.so_far one.1;
            faults = w.in-Ok.ensures.counted ∙ c.loop-task.invariant.faults;
          })
      | else-is_source w ↦
          rw w.engine-is (record {
            brings = c.loop-task.invariant.brings;
            so_far = sources_skip rules c.loop-task.engine c.loop-task.task (λ partition is. false≢true (w.if-is_source.ensures.1 (partition, ap (λ (x : Expanded). slice_get x.tasks c.loop-task.task) c.graph-in-loop-task.ensures ∙ is))) c.loop-task.invariant.so_far;
            faults = c.loop-task.invariant.faults;
          })
    ]

pub returns-clause-ends : goal.returns-clause-ends
returns-clause-ends g c =
    let rules = rules_of g.O.Operator g.O.Key.Ord g.O.Record.Codec g.O.Key.Codec g.O.State.Codec in
    let b = c.loop-task.invariant.brings in
    let same = ap (λ (x : Expanded). length x.tasks) (graph_same rules b.moves c.args.engine.now c.loop-task.engine b.works) in
    (b, sources_all rules c.loop-task.engine c.loop-task.task (omega (arith, same, c.loop-task-test.false, c.tasks-task-end.ensures.count, ap (λ (x : Expanded). length x.tasks) c.graph.ensures)) c.loop-task.invariant.so_far)
