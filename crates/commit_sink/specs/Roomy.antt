-- A list with places promised for more.
use Rattle.std.specs.Prelude.{ℕ, List}

pub record WithRoom (A : Type 0) : Type 0 where
  pub items : List A
  -- for how many more there is a place
  pub promised : ℕ
