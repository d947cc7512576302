use Rattle.std.proofs.Common.{◌≡◌, take}
use Rattle.deliveries.specs.Deliveries.{deliveries_of, on_first}
use Rattle.job_state.specs.Sending.{into_one}
use Rattle.job_state.proofs.ready.all_go_into.Given as goal

-- the records met so far go into the channel
abbrev pub invariant-loop-place : goal.invariant-loop-place
invariant-loop-place g l = deliveries_of g.O.Operator.meaning l.graph l.task (on_first (take l.place l.rows)) ≡ into_one l.number (take l.place l.rows)
