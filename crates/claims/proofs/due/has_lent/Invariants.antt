use Rattle.std.proofs.Common.{◌≡◌, ◌<◌, ℕ, List, Some, slice_get}
use Rattle.job_state.specs.declared.holding.Holding.TheVariants as holds
use Rattle.claims.proofs.Keys.{AgreeAt}
use Rattle.claims.proofs.due.has_lent.Given as goal

-- the task has the states under the keys that were met
abbrev pub invariant-loop-index : goal.invariant-loop-index
invariant-loop-index g l = (i : ℕ) → i < l.index → (entries : List (g.row.O-Key.Denot × g.row.O-State.Denot)) → slice_get l.attempt.tasks l.task ≡ Some (holds.Operator entries) → AgreeAt g.met.O.Key.Ord.total l.lent g.met.O.Operator.key_is_exact entries l.keys i
