use Rattle.std.proofs.Common.{◌≡◌, ℕ, length, slice_get, []}
use Rattle.dataflow_model.specs.Machine.{fresh_task}
use Rattle.plain_machine.specs.Plain.{records_of, state_of}
use Rattle.plain_machine.proofs.plain.PlainMachine+O+O+Record+O+Key+O+State.new.Given as goal

abbrev pub invariant-loop-task : goal.invariant-loop-task
invariant-loop-task g l = (length l.tasks.items ≡ l.task) × ((k : ℕ) → state_of g.O.Key.Ord.cmp (slice_get l.tasks.items k) ≡ fresh_task)

abbrev pub invariant-loop-channel : goal.invariant-loop-channel
invariant-loop-channel g l = (length l.channels.items ≡ l.channel) × ((k : ℕ) → records_of (slice_get l.channels.items k) ≡ [])
