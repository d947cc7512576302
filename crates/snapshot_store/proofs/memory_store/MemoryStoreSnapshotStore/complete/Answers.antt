use Rattle.std.proofs.Common.{◌<◌, ◌≤◌, arith, sym, ◌∙◌}
use Rattle.snapshot_store.proofs.Kept.{kept_marked, noted_if}
use Rattle.snapshot_store.proofs.memory_store.MemoryStoreSnapshotStore.complete.Goals as goal

pub complete-requires : goal.complete-requires
complete-requires c = noted_if c.args.self.now.tasks c.args.self.now.next c.args.self.now.parts c.args.self.now.numbers c.args.self.now.kept c.args.number (sym c.can_complete.ensures ∙ c.if-not-can_complete.false)

pub invariant_of-self-2 : goal.invariant_of-self-2
invariant_of-self-2 c =
    let low : 1 ≤ c.args.number = omega arith in
    let high : c.args.number < c.args.self.now.next = omega arith in
    record {
      kept = kept_marked c.args.self.now.tasks c.args.self.now.next c.args.self.now.parts c.args.self.now.numbers c.args.self.now.kept c.complete.new.self c.args.number c.complete.ensures.marked c.complete.ensures.keeps low high;
    }
