use Rattle.std.proofs.Common.{◌≡◌, ◌≤◌, ◌+◌, ◌++◌, length, vec_len, vec_capacity}
use Rattle.std.specs.Map.{keys_of}
use Rattle.std.specs.Vec.Iter.{into_iter_items}
use Rattle.claims.proofs.states.numbered.Given as goal

-- the keys so far, and then those that are left, for which there is room
abbrev pub invariant-loop-key : goal.invariant-loop-key
invariant-loop-key g l = record {
  keys : keys_of l.pairs.items ++ into_iter_items l.key-iterator ≡ l.fn.keys.items;
  room : vec_len l.pairs + length (into_iter_items l.key-iterator) ≤ vec_capacity l.pairs;
}
