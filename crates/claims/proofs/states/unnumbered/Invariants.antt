use Rattle.std.proofs.Common.{◌≡◌, ◌≤◌, ◌+◌, ◌++◌, length, vec_len, vec_capacity}
use Rattle.std.specs.Map.{keys_of}
use Rattle.std.specs.Vec.Iter.{into_iter_items}
use Rattle.claims.proofs.states.unnumbered.Given as goal

-- the keys so far, and then those of the pairs that are left, for which there is room
abbrev pub invariant-loop-key : goal.invariant-loop-key
invariant-loop-key g l = record {
  keys : l.keys.items ++ keys_of (into_iter_items l.key-iterator) ≡ keys_of l.fn.pairs.items;
  room : vec_len l.keys + length (into_iter_items l.key-iterator) ≤ vec_capacity l.keys;
}
