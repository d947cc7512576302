use Rattle.std.proofs.Common.{◌≡◌, ◌↔◌, drop, take}
use Rattle.std.specs.List.Sorted.{IsStrictlySortedBy}
use Rattle.std.specs.Map.{keys_of}
use Rattle.keyed_state.specs.Comparing.{HaveStates}
use Rattle.keyed_state.specs.Overlay.{put_over}
use Rattle.keyed_state.specs.Putting.{notes_of, undone}
use Rattle.keyed_state.proofs.comparing.exchange_each.Given as goal

-- all are as expected if those that are left are, and the other way round
abbrev pub invariant-loop-index : goal.invariant-loop-index
invariant-loop-index g l = record {
  rest : drop l.index l.entries ≡ drop l.index l.fn.entries;
  put : put_over g.K.Ord.cmp l.table (drop l.index l.fn.entries) ≡ put_over g.K.Ord.cmp l.fn.table l.fn.entries;
  rising : IsStrictlySortedBy g.K.Ord.cmp (keys_of (drop l.index l.fn.entries));
  same : HaveStates g.K.Ord.cmp l.table (keys_of (drop l.index l.fn.entries)) (drop l.index l.expected) ↔ HaveStates g.K.Ord.cmp l.fn.table (keys_of l.fn.entries) l.expected;
  undone : undone g.K.Ord.cmp (notes_of (take l.index l.entries) l.expected) l.table ≡ l.fn.table;
}
