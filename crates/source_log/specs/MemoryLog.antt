-- Partitions in memory.
use Rattle.std.specs.Prelude.{◌<◌, ◌^◌, ℕ, List, length}
use Rattle.source_log.specs.Partitions.{records_at}

pub record AreShort {R : Type 0} (partitions : List (List R)) : Type 0 where
  pub count : length partitions < 2 ^ 32
  pub rows : (p : ℕ) → length (records_at partitions p) < 2 ^ 32
