use Rattle.std.proofs.Common.{◌≡◌, ◌<◌, ℕ, length, slice_get}
use Rattle.plain_machine.specs.Plain.{move_of, records_of, IsQueueAfter}
use Rattle.plain_machine.proofs.plain.PlainMachine+O+O+Record+O+Key+O+State.queues_after.Given as goal

abbrev pub invariant-loop-channel : goal.invariant-loop-channel
invariant-loop-channel g l =
    (length l.queues.items ≡ l.channel)
    × ((k : ℕ) → k < l.channel → IsQueueAfter g.O.Operator.meaning l.self.job l.self.configuration (move_of l.step) l.sent k (records_of (slice_get l.queues.items k)))
