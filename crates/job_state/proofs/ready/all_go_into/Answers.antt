use Rattle.job_state.proofs.Together.{lane_of_row}
use Rattle.std.proofs.Common.{arith}
use Rattle.job_state.proofs.ready.all_go_into.Goals as goal

-- the lane that is told of the record is its own
pub run_target-requires-clause-known : goal.run_target-requires-clause-known
run_target-requires-clause-known g c =
    lane_of_row g.O.Operator.meaning c.args.graph.now c.args.task c.args.rows.now c.args.lanes.now c.loop-place.place c.index-rows-place.result c.lane_at-lane.result (omega arith) c.index-rows-place.is c.requires.lanes c.lane_at-lane.ensures
