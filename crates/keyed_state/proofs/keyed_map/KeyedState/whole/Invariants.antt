use Rattle.std.proofs.Common.{◌≡◌}
use Rattle.keyed_state.specs.Overlay.{put_over}
use Rattle.keyed_state.proofs.keyed_map.KeyedState.whole.Given as goal

abbrev pub invariant-loop-key : goal.invariant-loop-key
invariant-loop-key g l = put_over g.K.Ord.cmp l.whole l.key-iterator ≡ l.self.entries
