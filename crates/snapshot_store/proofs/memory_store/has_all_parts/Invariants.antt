use Rattle.std.proofs.Common.{◌≡◌, true}
use Rattle.std.specs.Prelude.{is_some}
use Rattle.std.specs.FinMap as fin
use Rattle.snapshot_store.specs.Store.{all_below}
use Rattle.snapshot_store.proofs.memory_store.has_all_parts.Given as goal

-- each task so far has put its part
abbrev pub invariant-loop-task : goal.invariant-loop-task
invariant-loop-task l = all_below (λ t. is_some (fin.get l.parts (l.number, t))) l.task ≡ true
