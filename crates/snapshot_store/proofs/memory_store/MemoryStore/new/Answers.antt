use Rattle.snapshot_store.proofs.Kept.{kept_new}
use Rattle.snapshot_store.proofs.memory_store.MemoryStore.new.Goals as goal

pub invariant_of-result : goal.invariant_of-result
invariant_of-result c = rw (c.new.ensures, c.new-2.ensures) (record { kept = kept_new c.args.tasks c.requires })
