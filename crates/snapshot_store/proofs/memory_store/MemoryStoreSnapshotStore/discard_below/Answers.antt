use Rattle.snapshot_store.proofs.Kept.{kept_dropped}
use Rattle.snapshot_store.proofs.memory_store.MemoryStoreSnapshotStore.discard_below.Goals as goal

pub invariant_of-self : goal.invariant_of-self
invariant_of-self c = record { kept = rw (c.drop_below.ensures, c.forget_below.ensures) (kept_dropped c.args.self.now.tasks c.args.self.now.next c.args.self.now.parts c.args.self.now.numbers c.args.self.now.kept c.args.number) }
