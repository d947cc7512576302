-- What agrees on the numbers of a list.
use Rattle.std.proofs.Common.{◌≡◌, ◌≤◌, ◌+◌, ◌==◌, ℕ, zero, suc, Bool, true, false, cond, List, [], ◌∷◌, ◌++◌, filter, count_by, sum_by, slice_get, slice_set, Some, ◌≢◌, refl, sym, ap, ◌∙◌, arith}
use Rattle.std.specs.List.{flat_map}
use Rattle.std.proofs.lemmas.Bool.{eq-eqb}
use Rattle.std.proofs.lemmas.Option.{get_or_from_slice_get, slice_get_within}
use Rattle.std.proofs.lemmas.List.Sums.{sum_by-cons, sum_by-set}

abbrev pub count_of : ℕ → List ℕ → ℕ
count_of m xs = count_by (λ x. x == m) xs

pub count_of-cons : (m y : ℕ) (ys : List ℕ) → count_of m (y ∷ ys) ≡ cond (y == m) 1 0 + count_of m ys
count_of-cons m y ys = sum_by-cons (λ x. cond (x == m) 1 0) y ys

counted-head : (y : ℕ) (ys : List ℕ) → 1 ≤ count_of y (y ∷ ys)
counted-head y ys =
    let is : count_of y (y ∷ ys) ≡ 1 + count_of y ys = count_of-cons y y ys ∙ ap (λ b. cond b 1 0 + count_of y ys) (eq-eqb y y refl) in
    omega (arith, is)

counted-tail : (m y : ℕ) (ys : List ℕ) → 1 ≤ count_of m ys → 1 ≤ count_of m (y ∷ ys)
counted-tail m y ys some = let is = count_of-cons m y ys in omega (arith, is, some)

pub filter-counted : (p q : ℕ → Bool) (xs : List ℕ) → ((m : ℕ) → 1 ≤ count_of m xs → p m ≡ q m) → filter p xs ≡ filter q xs
filter-counted p q [] same = refl
filter-counted p q (x ∷ xs) same =
    ap (λ b. cond b (x ∷ filter p xs) (filter p xs)) (same x (counted-head x xs))
    ∙ ap (λ ys. cond (q x) (x ∷ ys) ys) (filter-counted p q xs (λ m some. same m (counted-tail m x xs some)))

pub flat_map-counted : {A : Type 0} (f g : ℕ → List A) (xs : List ℕ) → ((m : ℕ) → 1 ≤ count_of m xs → f m ≡ g m) → flat_map f xs ≡ flat_map g xs
flat_map-counted f g [] same = refl
flat_map-counted f g (x ∷ xs) same =
    ap (λ ys. ys ++ flat_map f xs) (same x (counted-head x xs))
    ∙ ap (λ ys. g x ++ ys) (flat_map-counted f g xs (λ m some. same m (counted-tail m x xs some)))

pub counted-filter : (m : ℕ) (p : ℕ → Bool) (xs : List ℕ) → count_of m (filter p xs) ≤ count_of m xs
counted-filter m p [] = omega arith
counted-filter m p (x ∷ xs) =
    let ih = counted-filter m p xs in
    let whole = count_of-cons m x xs in
    let kept = count_of-cons m x (filter p xs) in
    elim (p x) as (λ b. count_of m (cond b (x ∷ filter p xs) (filter p xs)) ≤ count_of m (x ∷ xs)) [ true ↦ omega (arith, ih, whole, kept) | false ↦ omega (arith, ih, whole) ]

pub sum_by-changed : {A : Type 0} (f : A → ℕ) (xs : List A) (i : ℕ) (x y : A) → slice_get xs i ≡ Some x → sum_by f (slice_set xs i y) + f x ≡ sum_by f xs + f y
sum_by-changed f xs i x y at = ap (λ z. sum_by f (slice_set xs i y) + f z) (sym (get_or_from_slice_get xs i x y at)) ∙ sum_by-set f xs i y y (slice_get_within xs i x at)

pub slice_get-set_same : {A : Type 0} (xs : List A) (i : ℕ) (x y : A) → slice_get xs i ≡ Some x → slice_get (slice_set xs i y) i ≡ Some y
slice_get-set_same [] i x y at = absurd (cc at)
slice_get-set_same (z ∷ zs) zero x y at = refl
slice_get-set_same (z ∷ zs) (suc i) x y at = slice_get-set_same zs i x y at

pub slice_get-set_other : {A : Type 0} (xs : List A) (i j : ℕ) (y : A) → j ≢ i → slice_get (slice_set xs i y) j ≡ slice_get xs j
slice_get-set_other [] i j y other = refl
slice_get-set_other (z ∷ zs) zero zero y other = absurd (other refl)
slice_get-set_other (z ∷ zs) zero (suc j) y other = refl
slice_get-set_other (z ∷ zs) (suc i) zero y other = refl
slice_get-set_other (z ∷ zs) (suc i) (suc j) y other = slice_get-set_other zs i j y (λ e. other (ap suc e))

pub sum_by-one : {A : Type 0} (f : A → ℕ) (xs : List A) (i : ℕ) (x : A) → slice_get xs i ≡ Some x → f x ≤ sum_by f xs
sum_by-one f [] i x at = absurd (cc at)
sum_by-one f (y ∷ ys) zero x at = let is = sum_by-cons f y ys in let same : f y ≡ f x = some_same at in omega (arith, is, same)
  where
    some_same : Some y ≡ Some x → f y ≡ f x
    some_same e = ap f (cc e)
sum_by-one f (y ∷ ys) (suc i) x at = let is = sum_by-cons f y ys in let ih = sum_by-one f ys i x at in omega (arith, is, ih)
