use Rattle.std.proofs.Common.{◌≡◌, [], map, replicate}
use Rattle.published_lists.proofs.lists.Lists.new.Given as goal

abbrev pub invariant-loop : goal.invariant-loop
invariant-loop l = map (λ rows. map (λ row. row.items) rows.items) l.lists.items ≡ replicate l.counter []
