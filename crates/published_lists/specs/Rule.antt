-- The rule of the published lists, and what each step tells.
use Rattle.std.specs.Prelude.{◌≡◌, ℕ, List, Option, Some}
use mathlib.Core.Option.{some}
use lib.ListN.{get_elem?}
use Rattle.published_lists.specs.Editions.{Edition, Follows}
use Rattle.published_lists.specs.Holding.{Held, IsSealed}

-- what is published is sealed, and follows all that a seat knows
abbrev pub Grows : Held → List (Option Edition) → Type 0
Grows x views = (seat : ℕ) (v : Edition) → get_elem? views seat ≡ some (Some v) → IsSealed x × Follows v x.edition

-- a look at lists that follow what was known
abbrev pub Looks : Option Edition → Held → Held → Option Edition → Type 0
Looks v before after w = (w ≡ Some after.edition) × IsSealed after × ((k : Edition) → v ≡ Some k → Follows k after.edition)
