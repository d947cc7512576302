use Rattle.std.proofs.Common.{◌≡◌, ◌++◌, map}
use Rattle.std.specs.VecDeque.Iter.{deque_iter_rest}
use Rattle.commit_sink.proofs.sink.Sink.names.Given as goal

-- those so far, and those that are left
abbrev pub invariant-loop-pending : goal.invariant-loop-pending
invariant-loop-pending l = l.names.items ++ map (λ p. p.transaction) (deque_iter_rest l.pending-iterator) ≡ map (λ p. p.transaction) (deque_iter_rest l.initial.pending-iterator)
