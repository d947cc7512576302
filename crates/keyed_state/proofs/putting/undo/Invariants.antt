use Rattle.std.proofs.Common.{◌≡◌, vec_len}
use Rattle.keyed_state.specs.Putting.{undone}
use Rattle.keyed_state.proofs.putting.undo.Given as goal

abbrev pub invariant-loop-key : goal.invariant-loop-key
invariant-loop-key g l = undone g.K.Ord.cmp l.notes.items (g.M.StateMap.entries l.map) ≡ undone g.K.Ord.cmp l.initial.notes.items (g.M.StateMap.entries l.initial.map)

abbrev pub decreases-loop-key : goal.decreases-loop-key
decreases-loop-key g l = vec_len l.notes
