-- What an engine holds, as data.
use Rattle.std.specs.Prelude.{ℕ, Bool, List, Option}
use Rattle.commit_sink.specs.Ledger.{Ledger}
use Rattle.job_graph.specs.Expanded.{Expanded}
use Rattle.job_state.specs.Held.{Held}
use Rattle.snapshot_store.specs.Store.{Stored}

pub record State (O R K S : Type 0) : Type 0 where
  pub graph : Expanded
  -- the operator of each operator task
  pub operators : List O
  -- the records of each partition
  pub partitions : List (List R)
  -- what the snapshot store holds
  pub stored : Stored
  -- the transactions
  pub ledger : Ledger
  -- what a running job holds
  pub held : Option (Held R K S)
  -- whether the devices were new when the engine was opened
  pub is_fresh : Bool
  -- how often the devices have failed
  pub faults : ℕ
  -- how many attempts were made
  pub attempts : ℕ
