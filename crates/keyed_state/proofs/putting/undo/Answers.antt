use Rattle.keyed_state.specs.Putting.{undone}
use Rattle.keyed_state.proofs.Several.{last_undone}
use Rattle.keyed_state.proofs.putting.undo.Goals as goal

pub loop-key-preserved : goal.loop-key-preserved
loop-key-preserved g c =
    last_undone g.met.K.Ord.total c.loop-key.notes.items c.pop.new.self.items (g.M.StateMap.entries c.loop-key.map) (g.M.StateMap.entries c.put_back.new.map) (undone g.K.Ord.cmp c.args.notes.items (g.M.StateMap.entries c.args.map.now)) (c.in-Some.key, c.in-Some.former) c.in-Some.ensures.items c.put_back.ensures c.loop-key.invariant
