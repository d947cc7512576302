use Rattle.std.proofs.Common.{◌≡◌, ◌++◌, map, take}
use Rattle.deliveries.proofs.fans.put_copies.Given as goal

-- a copy is put for each number so far
abbrev pub invariant-loop-number : goal.invariant-loop-number
invariant-loop-number g l = l.rows.items ≡ l.fn.rows.items ++ map (λ n. (n, l.row)) (take l.number-index l.numbers)
