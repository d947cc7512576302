use Rattle.std.proofs.Common.{◌≡◌, drop}
use Rattle.std.specs.VecDeque.{deque_capacity}
use Rattle.channels.proofs.channel.drop_first.Given as goal

-- so many are gone, and the rest stands as it stood
abbrev pub invariant-loop : goal.invariant-loop
invariant-loop g l = record {
  items : l.records.items ≡ drop l.counter l.fn.records.items;
  capacity : deque_capacity l.records ≡ deque_capacity l.fn.records;
}
