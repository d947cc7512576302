-- what is left to be undone is undone
use Rattle.std.proofs.Common.{◌≡◌, vec_len}
use Rattle.keyed_state.specs.Putting.{notes_of, undone}
use Rattle.keyed_state.proofs.comparing.exchange_back.Given as goal

abbrev pub invariant-loop-key : goal.invariant-loop-key
invariant-loop-key g l = undone g.K.Ord.cmp (notes_of l.entries.items l.expected) l.table ≡ undone g.K.Ord.cmp (notes_of l.initial.entries.items l.expected) l.initial.table

abbrev pub decreases-loop-key : goal.decreases-loop-key
decreases-loop-key g l = vec_len l.entries
