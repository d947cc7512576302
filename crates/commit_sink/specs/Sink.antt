-- The transactions of a running sink subtask.
use Rattle.std.specs.Prelude.{ℕ, List, [], ◌∷◌, ◌++◌, map}
use Rattle.commit_sink.specs.declared.sink.Pending.{Pending}

pub record Sinking : Type 0 where
  -- the open transaction
  pub open_one : ℕ
  -- those that are pre-committed and not committed yet, the oldest first, each with its checkpoint
  pub pending : List Pending

-- the pre-committed transactions and, last, the open one
abbrev pub names_with_open : Sinking → List ℕ
names_with_open sink = map (λ p. p.transaction) sink.pending ++ sink.open_one ∷ []

-- the open transaction counts as the newest pre-committed one
abbrev pub pre_committed_last : Sinking → ℕ → Sinking
pre_committed_last sink checkpoint = record { open_one = sink.open_one; pending = sink.pending ++ record { transaction = sink.open_one; checkpoint = checkpoint } ∷ [] }
