use Rattle.std.proofs.Common.{ap}
use Rattle.std.proofs.lemmas.Bool.{eqb-true, eq-eqb}
use Rattle.snapshot_store.proofs.Kept.{blank_at_one}
use Rattle.snapshot_store.proofs.memory_store.MemoryStoreSnapshotStore.is_new.Goals as goal

pub returns : goal.returns
returns c = (
  λ one. blank_at_one c.args.self.now.tasks c.args.self.now.next c.args.self.now.parts c.args.self.now.numbers c.args.self.now.kept (eqb-true c.args.self.now.next 1 one),
  λ e. eq-eqb c.args.self.now.next 1 (ap (λ s. s.next) e),
)
