use Rattle.std.proofs.Common.{◌≡◌, List, length, map, take}
use Rattle.abs_codec.specs.Entries.{value_at}
use Rattle.claims.proofs.states.copied_states.Given as goal

-- the states of the keys so far
abbrev pub invariant-loop-key : goal.invariant-loop-key
invariant-loop-key g l = record {
  long : length l.states.items ≡ l.key-index;
  states : (es : List (g.row.K.Denot × g.row.S.Denot)) → g.E.Entries.AreEntries l.entries es → l.states.items ≡ map (value_at g.K.Ord.cmp es) (take l.key-index l.keys);
}
