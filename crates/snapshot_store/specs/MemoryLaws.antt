-- What a store in memory stands for is in range.
use Rattle.std.specs.Prelude.{ℕ}
use Rattle.snapshot_store.specs.Store.{IsNumbered}
use Rattle.snapshot_store.specs.Memory.{IsKept, Noted, Parts, memory_state}

-- what is kept makes the store's numbers and parts stand in range
pub memory_numbered : (tasks next : ℕ) (parts : Parts) (numbers : Noted) → IsKept tasks next parts numbers → IsNumbered (memory_state tasks next parts numbers)
memory_numbered tasks next parts numbers k = record {
  positive = k.positive;
  within = k.within;
  parts = λ n t there. let h = k.part n t there in (h.0.0, h.0.1, h.1);
  completes = k.complete;
}
