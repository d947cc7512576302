-- A copy of the lists.
use Rattle.std.specs.Prelude.{◌≡◌, ℕ, List}
use Rattle.published_lists.specs.Editions.{Edition}

-- the rows of each subtask, and the edition that names them once they are sealed
pub record Held : Type 0 where
  pub lists : List (List (List ℕ))
  pub edition : Edition

-- the edition names these lists
abbrev pub IsSealed : Held → Type 0
IsSealed held = held.edition.lists ≡ held.lists
