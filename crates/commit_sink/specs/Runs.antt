-- Records that stand together.
use Rattle.std.specs.Prelude.{◌≡◌, ◌<◌, ℕ, List, length, take, drop}

-- These are the first of the records from a number on, and one at least where there is one.
pub record IsRunFrom {A : Type 0} (records : List A) (number : ℕ) (run : List A) : Type 0 where
  pub first : run ≡ take (length run) (drop number records)
  pub some : number < length records → 0 < length run
