use Rattle.std.proofs.Common.{◌≡◌, ◌++◌}
use Rattle.std.specs.List.{filter_map}
use Rattle.commit_sink.specs.Shares.{unsettled_in}
use Rattle.commit_sink.proofs.memory_transactions.unsettled_of.Given as goal

-- those so far, and those of the numbers that are left
abbrev pub invariant-loop-number : goal.invariant-loop-number
invariant-loop-number l = l.unsettled.items ++ filter_map (unsettled_in l.transactions.items) l.number-iterator ≡ filter_map (unsettled_in l.transactions.items) l.numbers.keys
