use Rattle.std.proofs.Common.{◌≡◌, ◌≤◌, ◌-◌, ◌++◌, length, map, filter, take}
use Rattle.channels.specs.declared.item.Item.TheVariants.{Record}
use Rattle.job_graph.specs.Expanded.{meets, takes}
use Rattle.deliveries.specs.Deliveries.{delivered_last}
use Rattle.deliveries.proofs.puts.deliver_one.Given as goal

-- all targets met so far have the record, but the last, which is to have it
abbrev pub invariant-loop-place : goal.invariant-loop-place
invariant-loop-place g l =
    (l.place ≤ length l.numbers) × (l.puts.items ++ delivered_last l.row l.last ≡ l.fn.puts.items ++ map (λ n. (n, Record l.row)) (filter (meets (takes (g.O.Operator.meaning.lane l.row)) l.graph.channels) (take l.place l.numbers)))

abbrev pub decreases-loop-place : goal.decreases-loop-place
decreases-loop-place g l = length l.numbers - l.place
