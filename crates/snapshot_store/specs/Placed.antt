-- The place of a key in a list.
use Rattle.std.specs.Prelude.{◌≡◌, ℕ, zero, suc, List, [], ◌∷◌, ⊤}
use Rattle.std.specs.declared.cmp.Ordering.{Ordering}
use Rattle.std.specs.declared.cmp.Ordering.TheVariants.{Less}

-- a new key is above those before the place i, and below the one that stands there
abbrev pub Fits : {K A : Type 0} → (K → K → Ordering) → (A → K) → K → List A → ℕ → Type 0
Fits R key k [] i = ⊤
Fits R key k (x ∷ xs) zero = R k (key x) ≡ Less
Fits R key k (x ∷ xs) (suc i) = (R (key x) k ≡ Less) × Fits R key k xs i
