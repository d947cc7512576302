use Rattle.std.proofs.Common.{◌≡◌, ◌<◌, ◌≤◌, ℕ, count_by, arith, rules}
use Rattle.engine_model.proofs.Numbers.{sink_within}
use Rattle.job_graph.specs.Expanded.{is_sink}
use Rattle.row_publishing.proofs.publishing.hand_in.Goals as goal

pub returns-clause-all : goal.returns-clause-all
returns-clause-all g c task subtask at =
    let graph = c.args.core.now.engine.graph in
    let within = sink_within graph c.is_fresh.ensures.kept.expanded task subtask at in
    let all : count_by is_sink graph.tasks ≤ c.loop-sink.sink = search rules in
    c.loop-sink.invariant.all task subtask at (omega (arith, within, all))
