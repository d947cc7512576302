use Rattle.std.proofs.Common.{◌≡◌}
use Rattle.deliveries.specs.Deliveries.{deliveries_of}
use Rattle.deliveries.proofs.puts.deliver.Given as goal

-- what was met so far is delivered
abbrev pub invariant-loop-port : goal.invariant-loop-port
invariant-loop-port g l = l.puts.items ≡ deliveries_of g.O.Operator.meaning l.graph l.task l.yielded
