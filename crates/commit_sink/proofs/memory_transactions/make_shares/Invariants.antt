use Rattle.std.proofs.Common.{◌≡◌, ◌+◌, ◌-◌, ℕ, length}
use Rattle.commit_sink.specs.Shares.{share_at}
use Rattle.commit_sink.proofs.memory_transactions.make_shares.Given as goal

abbrev pub decreases-loop-alloc : goal.decreases-loop-alloc
decreases-loop-alloc l = l.subtask + 1 - length l.shares.items

-- no share is changed
abbrev pub invariant-loop-alloc : goal.invariant-loop-alloc
invariant-loop-alloc l = (s : ℕ) → share_at l.shares.items s ≡ share_at l.initial.shares.items s
