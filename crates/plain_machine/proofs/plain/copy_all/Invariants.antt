use Rattle.std.proofs.Common.{◌≡◌, take}
use Rattle.plain_machine.proofs.plain.copy_all.Given as goal

abbrev pub invariant-loop-record : goal.invariant-loop-record
invariant-loop-record g l = l.copies.items ≡ take l.record-index l.records
