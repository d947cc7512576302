-- The records of partitions in memory.
use Rattle.std.specs.Prelude.{List, map, Vec}
use Rattle.std.specs.declared.alloc.Global.{Global}

-- the records of each partition
abbrev pub lists_of : {R : Type 0} → List (Vec R Global) → List (List R)
lists_of partitions = map (λ v. v.items) partitions
