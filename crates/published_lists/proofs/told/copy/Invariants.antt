use Rattle.std.proofs.Common.{◌≡◌, map, take}
use Rattle.published_lists.proofs.told.copy.Given as goal

abbrev pub invariant-loop-row : goal.invariant-loop-row
invariant-loop-row l = map (λ row. row.items) l.all.items ≡ take l.row-index (map (λ row. row.items) l.rows)
