use Rattle.std.proofs.Common.{◌≡◌, ◌+◌, length, count_by, take, not}
use Rattle.keyed_state.specs.Putting.{has_key}
use Rattle.keyed_state.proofs.keyed_map.KeyedState.len_with_all.Given as goal

abbrev pub invariant-loop-entry : goal.invariant-loop-entry
invariant-loop-entry g l = l.len ≡ length l.self.entries + count_by (λ e. not (has_key g.K.Ord.cmp l.self.entries e)) (take l.entry-index l.entries)
