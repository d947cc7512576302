use Rattle.std.proofs.Common.{◌≡◌}
use Rattle.deliveries.specs.Deliveries.{deliveries_of}
use Rattle.job_state.specs.Sending.{as_puts}
use Rattle.job_state.proofs.fans.fan_out.Given as goal

-- the records met so far are there
abbrev pub invariant-loop-port : goal.invariant-loop-port
invariant-loop-port g l = as_puts l.rows.items ≡ deliveries_of g.O.Operator.meaning l.graph l.task l.yielded
