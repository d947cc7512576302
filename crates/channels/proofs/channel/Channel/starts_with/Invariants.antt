use Rattle.std.proofs.Common.{◌≤◌, length}
use Rattle.std.specs.Slice.Iter.{iter_rest}
use Rattle.std.specs.VecDeque.Iter.{deque_iter_rest}
use Rattle.std.specs.Iterator.Adapters.{zip_first, zip_second}
use Rattle.abs_codec.specs.Same.{EqualIsSame}
use Rattle.channels.proofs.First.{Begin, Stand}
use Rattle.channels.proofs.channel.Channel.starts_with.Given as goal

-- the records stand first if those that were not met yet do, and the other way round
abbrev pub invariant-loop-own : goal.invariant-loop-own
invariant-loop-own g l = record {
  long : length (iter_rest (zip_second l.own-iterator)) ≤ length (deque_iter_rest (zip_first l.own-iterator));
  each : EqualIsSame g.R.PartialEq.eq → Begin (iter_rest (zip_second l.own-iterator)) (deque_iter_rest (zip_first l.own-iterator)) → Stand l.records l.self.items;
  some : Stand l.records l.self.items → Begin (iter_rest (zip_second l.own-iterator)) (deque_iter_rest (zip_first l.own-iterator));
}
