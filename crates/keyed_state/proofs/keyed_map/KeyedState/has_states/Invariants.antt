use Rattle.std.proofs.Common.{◌↔◌, drop}
use Rattle.std.specs.Map.{keys_of}
use Rattle.keyed_state.specs.Comparing.{HaveStates}
use Rattle.keyed_state.proofs.keyed_map.KeyedState.has_states.Given as goal

-- all are as expected if those that are left are, and the other way round
abbrev pub invariant-loop-entry : goal.invariant-loop-entry
invariant-loop-entry g l = HaveStates g.K.Ord.cmp l.self.entries (keys_of (drop l.entry-index l.entries)) l.left ↔ HaveStates g.K.Ord.cmp l.self.entries (keys_of l.entries) l.expected
