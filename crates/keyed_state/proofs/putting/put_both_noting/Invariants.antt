use Rattle.std.proofs.Common.{◌≡◌, ◌+◌, ◌≤◌, length, vec_len}
use Rattle.std.specs.Prelude.{vec_capacity}
use Rattle.std.specs.List.Sorted.{IsStrictlySortedBy}
use Rattle.std.specs.Map.{keys_of}
use Rattle.std.specs.Vec.Iter.{into_iter_items}
use Rattle.keyed_state.specs.Overlay.{put_over}
use Rattle.keyed_state.specs.Putting.{undone}
use Rattle.keyed_state.proofs.putting.put_both_noting.Given as goal

abbrev pub invariant-loop-key : goal.invariant-loop-key
invariant-loop-key g l = record {
  put : put_over g.K.Ord.cmp (put_over g.K.Ord.cmp l.base l.overlay.entries) (into_iter_items l.key-iterator) ≡ put_over g.K.Ord.cmp (put_over g.K.Ord.cmp l.fn.base l.fn.overlay.entries) l.fn.entries.items;
  base_rises : IsStrictlySortedBy g.K.Ord.cmp (keys_of l.base);
  overlay_rises : IsStrictlySortedBy g.K.Ord.cmp (keys_of l.overlay.entries);
  overlay_grows_not : length l.overlay.entries ≡ length l.fn.overlay.entries;
  base_undone : undone g.K.Ord.cmp l.below.items l.base ≡ undone g.K.Ord.cmp l.fn.below.items l.fn.base;
  overlay_undone : undone g.K.Ord.cmp l.above.items l.overlay.entries ≡ undone g.K.Ord.cmp l.fn.above.items l.fn.overlay.entries;
  below_room : vec_len l.below + length (into_iter_items l.key-iterator) ≤ vec_capacity l.below;
  above_room : vec_len l.above + length (into_iter_items l.key-iterator) ≤ vec_capacity l.above;
}
