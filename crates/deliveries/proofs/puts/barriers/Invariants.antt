use Rattle.std.proofs.Common.{◌≡◌, map, take}
use Rattle.channels.specs.declared.item.Item.TheVariants.{Barrier}
use Rattle.deliveries.proofs.puts.barriers.Given as goal

abbrev pub invariant-loop-number : goal.invariant-loop-number
invariant-loop-number g l = l.puts.items ≡ map (λ n. (n, Barrier l.checkpoint)) (take l.number-index l.number-items)
