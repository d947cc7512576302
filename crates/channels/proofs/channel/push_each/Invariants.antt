use Rattle.std.proofs.Common.{◌≡◌, ◌+◌, ◌++◌, length}
use Rattle.std.specs.VecDeque.{deque_len, deque_capacity}
use Rattle.channels.proofs.channel.push_each.Given as goal

-- so many are put last
abbrev pub invariant-loop-record : goal.invariant-loop-record
invariant-loop-record g l = record {
  items : l.queue.items ≡ l.fn.queue.items ++ l.yielded;
  len : deque_len l.queue ≡ deque_len l.fn.queue + length l.yielded;
  capacity : deque_capacity l.queue ≡ deque_capacity l.fn.queue;
}
