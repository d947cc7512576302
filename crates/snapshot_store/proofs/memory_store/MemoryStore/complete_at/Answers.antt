use Rattle.std.proofs.Common.{ap, sym, ◌∙◌}
use Rattle.std.specs.Prelude.{slice_get}
use Rattle.snapshot_store.proofs.Listed.{lists}
use Rattle.snapshot_store.proofs.memory_store.MemoryStore.complete_at.Goals as goal

pub returns : goal.returns
returns c = c.complete_at.ensures.found
    ∙ ap (λ ks. slice_get ks c.args.index) (sym (lists c.args.self.now.tasks c.args.self.now.next c.args.self.now.parts c.args.self.now.numbers c.args.self.now.kept c.complete_at.ensures.rising))
