use Rattle.snapshot_store.specs.Memory.{memory_state}
use Rattle.snapshot_store.proofs.Kept.{kept_put, may_put}
use Rattle.snapshot_store.proofs.memory_store.MemoryStore.keep_part.Goals as goal

pub invariant_of-self-2 : goal.invariant_of-self-2
invariant_of-self-2 c =
    let may = may_put (memory_state c.args.self.now.tasks c.args.self.now.next c.args.self.now.parts c.args.self.now.numbers) c.args.number c.args.task c.requires in
    record {
      kept = kept_put c.args.self.now.tasks c.args.self.now.next c.args.self.now.parts c.args.self.now.numbers c.args.self.now.kept c.put.new.self c.note.new.self
          c.args.number c.args.task c.args.part c.put.result c.put.ensures.ok c.put.ensures.err c.note.ensures.same c.in_ok-note.ensures.there c.note.ensures.keeps may.0.0 may.0.1 may.1;
    }
