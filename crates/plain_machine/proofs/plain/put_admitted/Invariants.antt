use Rattle.std.proofs.Common.{◌≡◌, ◌++◌, take}
use Rattle.dataflow_model.specs.Graph.{admitted}
use Rattle.plain_machine.specs.Plain.{channel_of}
use Rattle.plain_machine.proofs.plain.put_admitted.Given as goal

abbrev pub invariant-loop-port : goal.invariant-loop-port
invariant-loop-port g l = l.queue.items ≡ l.initial.queue.items ++ admitted g.O.Operator.meaning (channel_of l.channel) (take l.port-index l.sent)
