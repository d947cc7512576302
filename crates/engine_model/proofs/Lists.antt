-- Lists of which one place is written.
use Rattle.std.proofs.Common.{◌≡◌, ◌<◌, ◌==◌, inl, inr, if◌then◌else◌, Some, slice_get, slice_set, length, ℕ, zero, suc, List, [], ◌∷◌, refl, ap, ◌∙◌, arith}
use Rattle.std.proofs.lemmas.Bool.Decides.{eqb_tells}

pub get_set_same : {A : Type 0} (xs : List A) (i : ℕ) (a : A) → i < length xs → slice_get (slice_set xs i a) i ≡ Some a
get_set_same [] i a within = absurd (omega (arith, within))
get_set_same (x ∷ xs) zero a within = refl
get_set_same (x ∷ xs) (suc i) a within = get_set_same xs i a (omega (arith, within))

pub get_set_other : {A : Type 0} (xs : List A) (i k : ℕ) (a : A) → (k ≡ i → ⊥) → slice_get (slice_set xs i a) k ≡ slice_get xs k
get_set_other [] i k a apart = refl
get_set_other (x ∷ xs) zero zero a apart = absurd (apart refl)
get_set_other (x ∷ xs) zero (suc k) a apart = refl
get_set_other (x ∷ xs) (suc i) zero a apart = refl
get_set_other (x ∷ xs) (suc i) (suc k) a apart = get_set_other xs i k a (λ e. apart (ap suc e))

pub get_set : {A : Type 0} (xs : List A) (i k : ℕ) (a : A) → i < length xs → slice_get (slice_set xs i a) k ≡ (if k == i then Some a else slice_get xs k)
get_set xs i k a within =
    elim (eqb_tells k i) [
      | inl h ↦ rw h.0 (ap (slice_get (slice_set xs i a)) h.1 ∙ get_set_same xs i a within)
      | inr h ↦ rw h.0 (get_set_other xs i k a h.1)
    ]

-- past the end nothing is written
pub set_past : {A : Type 0} (xs : List A) (i : ℕ) (a : A) → (i < length xs → ⊥) → slice_set xs i a ≡ xs
set_past [] i a past = refl
set_past (x ∷ xs) zero a past = absurd (past (omega arith))
set_past (x ∷ xs) (suc i) a past = ap (λ (ys : List _). x ∷ ys) (set_past xs i a (λ h. past (omega (arith, h))))

pub set_length : {A : Type 0} (xs : List A) (i : ℕ) (a : A) → length (slice_set xs i a) ≡ length xs
set_length [] i a = refl
set_length (x ∷ xs) zero a = refl
set_length (x ∷ xs) (suc i) a = ap suc (set_length xs i a)
