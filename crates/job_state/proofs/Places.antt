-- Lists of which one item is replaced, and lists of channels.
use Rattle.std.proofs.Common.{◌≡◌, ◌<◌, ◌==◌, ℕ, zero, suc, if◌then◌else◌, List, [], ◌∷◌, length, drop, Some, slice_get, slice_set, unwrap_or, refl, sym, ap, ◌∙◌, arith, inl, inr}
use Rattle.std.proofs.lemmas.Bool.Decides.{eqb_tells}
use Rattle.channels.specs.declared.item.Item.{Item}
use Rattle.job_state.specs.Sending.{items_at, without_head}

module _ {A : Type 0} where
  pub get_set_same : (xs : List A) (i : ℕ) (a : A) → i < length xs → slice_get (slice_set xs i a) i ≡ Some a
  get_set_same [] i a within = absurd (omega (arith, within))
  get_set_same (x ∷ xs) zero a within = refl
  get_set_same (x ∷ xs) (suc i) a within = get_set_same xs i a (omega (arith, within))

  pub get_set_other : (xs : List A) (i k : ℕ) (a : A) → (k ≡ i → ⊥) → slice_get (slice_set xs i a) k ≡ slice_get xs k
  get_set_other [] i k a apart = refl
  get_set_other (x ∷ xs) zero zero a apart = absurd (apart refl)
  get_set_other (x ∷ xs) zero (suc k) a apart = refl
  get_set_other (x ∷ xs) (suc i) zero a apart = refl
  get_set_other (x ∷ xs) (suc i) (suc k) a apart = get_set_other xs i k a (λ e. apart (ap suc e))

  -- what stands at a place after one item was replaced
  pub get_set : (xs : List A) (i k : ℕ) (a : A) → i < length xs → slice_get (slice_set xs i a) k ≡ (if k == i then Some a else slice_get xs k)
  get_set xs i k a within =
      elim (eqb_tells k i) [
        | inl h ↦ rw h.0 (ap (slice_get (slice_set xs i a)) h.1 ∙ get_set_same xs i a within)
        | inr h ↦ rw h.0 (get_set_other xs i k a h.1)
      ]

  -- an item is put where it stands
  pub set_same : (xs : List A) (i : ℕ) (a : A) → slice_get xs i ≡ Some a → slice_set xs i a ≡ xs
  set_same [] i a is = refl
  set_same (x ∷ xs) zero a is = let same : a ≡ x = cc in ap (λ y. y ∷ xs) same
  set_same (x ∷ xs) (suc i) a is = ap (λ ys. x ∷ ys) (set_same xs i a is)

module _ {R : Type 0} where
  without_here : (channels : List (List (Item R))) (input : ℕ) → items_at (without_head input channels) input ≡ drop 1 (items_at channels input)
  without_here [] input = refl
  without_here (x ∷ xs) zero = refl
  without_here (x ∷ xs) (suc input) = without_here xs input

  -- what stands in each channel after the first item of one was taken
  pub items_without_head : (channels : List (List (Item R))) (input channel : ℕ) → items_at (without_head input channels) channel ≡ (if channel == input then drop 1 (items_at channels channel) else items_at channels channel)
  items_without_head channels input channel =
      elim (eqb_tells channel input) [
        | inl h ↦ rw h.0 (ap (items_at (without_head input channels)) h.1 ∙ without_here channels input ∙ ap (λ k. drop 1 (items_at channels k)) (sym h.1))
        | inr h ↦ rw h.0 (ap (λ o. unwrap_or o []) (get_set_other channels input channel (drop 1 (items_at channels input)) h.1))
      ]
