use Rattle.std.proofs.Common.{◌≡◌, ◌+◌, ◌≤◌, length, vec_len}
use Rattle.std.specs.Prelude.{vec_capacity}
use Rattle.std.specs.Vec.Iter.{into_iter_items}
use Rattle.keyed_state.specs.Overlay.{put_over}
use Rattle.keyed_state.specs.Putting.{undone}
use Rattle.keyed_state.proofs.putting.put_noting.Given as goal

abbrev pub invariant-loop-key : goal.invariant-loop-key
invariant-loop-key g l = record {
  put : put_over g.K.Ord.cmp (g.M.StateMap.entries l.map) (into_iter_items l.key-iterator) ≡ put_over g.K.Ord.cmp (g.M.StateMap.entries l.fn.map) l.fn.entries.items;
  undone : undone g.K.Ord.cmp l.notes.items (g.M.StateMap.entries l.map) ≡ undone g.K.Ord.cmp l.fn.notes.items (g.M.StateMap.entries l.fn.map);
  room : vec_len l.notes + length (into_iter_items l.key-iterator) ≤ vec_capacity l.notes;
}
