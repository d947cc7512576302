-- Where a binary search ends in a rising list, and what an insert there makes of it.
use Rattle.std.proofs.Common.{◌≡◌, ◌≤◌, ◌<◌, ◌+◌, ℕ, zero, suc, false, List, [], ◌∷◌, map, length, get_or, refl, sym, ap, subst, ◌∙◌, arith}
use Rattle.std.specs.Prelude.{◌||◌}
use Rattle.std.specs.List.{AllByRecursion, insert, list_any}
use Rattle.std.specs.List.Sorted.{IsStrictlySortedBy, IsNonDecreasingBy, IsPartitionPoint}
use Rattle.std.specs.Map.{keys_of}
use Rattle.std.specs.Ordering.{is_eq, is_lt, eq_by_cmp, ordering_index, ordering_reverse}
use Rattle.std.specs.Cmp.{IsTotalOrder}
use Rattle.std.specs.declared.cmp.Ordering.{Ordering}
use Rattle.std.specs.declared.cmp.Ordering.TheVariants.{Less, Greater}
use Rattle.std.specs.FinMap as fin
use Rattle.std.specs.FinMap.Entries.{by_order}
use Rattle.std.proofs.lemmas.List.{get_or-map, length-map}
use Rattle.std.proofs.lemmas.List.Sorted.{searchable_from_sorted}
use Rattle.std.proofs.lemmas.Map.Keys.{Less-from_sorted}
use Rattle.snapshot_store.specs.Placed.{Fits}

pub sorted_empty : {K : Type 0} (R : K → K → Ordering) → IsStrictlySortedBy R []
unfolding IsStrictlySortedBy
sorted_empty R = tt

module _ {K : Type 0} {R : K → K → Ordering} (o : IsTotalOrder R) where
  less : (x y : K) → R y x ≡ Greater → R x y ≡ Less
  less x y e = o.antisymm x y ∙ ap ordering_reverse e

  greater : (x y : K) → R y x ≡ Less → R x y ≡ Greater
  greater x y e = o.antisymm x y ∙ ap ordering_reverse e

  -- the comparisons with a key rise along a rising list, as a binary search asks
  pub answers_rise : {A : Type 0} (key : A → K) (k : K) (xs : List A) → IsStrictlySortedBy R (map key xs) → IsNonDecreasingBy (λ x. ordering_index (R (key x) k)) xs
  answers_rise {A = A} key k xs s = searchable_from_sorted o key xs k (λ j d low high.
      let below : j < length xs = omega arith in
      let rises : R (get_or (map key xs) j (key d)) (get_or (map key xs) (j + 1) (key d)) ≡ Less = Less-from_sorted R (map key xs) j (j + 1) (key d) s (omega arith) (subst (λ n. j + 1 < n) (sym (length-map xs key)) high) in
      ap is_lt (ap (λ x. R x (key (get_or xs j d))) (sym (get_or-map {X = A} {Y = K} key xs (j + 1) d (key d) high)) ∙ ap (R (get_or (map key xs) (j + 1) (key d))) (sym (get_or-map {X = A} {Y = K} key xs j d (key d) below)) ∙ greater _ _ rises))

  -- a key that is not found fits where the search ends
  pub fits : {A : Type 0} (key : A → K) (k : K) (xs : List A) (i : ℕ) → i ≤ length xs → IsPartitionPoint (λ x. R (key x) k ≡ Less) (λ x. R (key x) k ≡ Greater) xs i → Fits R key k xs i
  fits key k [] i within parted = tt
  fits key k (x ∷ xs) zero within parted = less k (key x) (parted.1 0 x (omega arith) (omega arith))
  fits key k (x ∷ xs) (suc i) within parted = (
    parted.0 0 x (omega arith) (omega arith),
    fits key k xs i (omega arith) (λ j d low high. parted.0 (suc j) d (omega arith) (omega arith), λ j d low high. parted.1 (suc j) d (omega arith) (omega arith)),
  )

  all_less : (k x : K) (ks : List K) → R k x ≡ Less → AllByRecursion (λ y. R x y ≡ Less) ks → AllByRecursion (λ y. R k y ≡ Less) ks
  all_less k x [] below all = tt
  all_less k x (y ∷ ks) below all = (o.trans k x y below all.0, all_less k x ks below all.1)

  all_insert : (P : K → Type 0) (ks : List K) (i : ℕ) (k : K) → P k → AllByRecursion P ks → AllByRecursion P (insert ks i k)
  all_insert P [] zero k here all = (here, tt)
  all_insert P [] (suc i) k here all = (here, tt)
  all_insert P (x ∷ ks) zero k here all = (here, all)
  all_insert P (x ∷ ks) (suc i) k here all = (all.0, all_insert P ks i k here all.1)

  -- a rising list rises with a key at its place
  pub sorted_insert : (ks : List K) (i : ℕ) (k : K) → Fits R (λ x. x) k ks i → IsStrictlySortedBy R ks → IsStrictlySortedBy R (insert ks i k)
  unfolding IsStrictlySortedBy
  sorted_insert [] zero k f s = (tt, tt)
  sorted_insert [] (suc i) k f s = (tt, tt)
  sorted_insert (x ∷ ks) zero k f s = ((f, all_less k x ks f s.0), s)
  sorted_insert (x ∷ ks) (suc i) k f s = (all_insert (λ y. R x y ≡ Less) ks i k f.0 s.0, sorted_insert ks i k f.1 s.1)

  none_below : (k : K) (ks : List K) → AllByRecursion (λ y. R k y ≡ Less) ks → list_any (eq_by_cmp R k) ks ≡ false
  none_below k [] all = refl
  none_below k (y ∷ ks) all = ap (λ r. is_eq r || list_any (eq_by_cmp R k) ks) all.0 ∙ none_below k ks all.1

  -- and a key that fits is not there
  pub not_there : (ks : List K) (i : ℕ) (k : K) → Fits R (λ x. x) k ks i → IsStrictlySortedBy R ks → list_any (eq_by_cmp R k) ks ≡ false
  unfolding IsStrictlySortedBy
  not_there [] i k f s = refl
  not_there (x ∷ ks) zero k f s = none_below k (x ∷ ks) (f, all_less k x ks f s.0)
  not_there (x ∷ ks) (suc i) k f s = ap (λ r. is_eq r || list_any (eq_by_cmp R k) ks) (greater k x f.0) ∙ not_there ks i k f.1 s.1

module _ {K X : Type 0} {R : K → K → Ordering} (o : IsTotalOrder R) where
  pub fits_keys : (es : List (K × X)) (i : ℕ) (k : K) → Fits R (λ (e : K × X). e.0) k es i → Fits R (λ x. x) k (keys_of es) i
  fits_keys [] i k f = tt
  fits_keys (e ∷ es) zero k f = f
  fits_keys (e ∷ es) (suc i) k f = (f.0, fits_keys es i k f.1)

  pub keys_insert : (es : List (K × X)) (i : ℕ) (k : K) (v : X) → keys_of (insert es i (k, v)) ≡ insert (keys_of es) i k
  keys_insert [] zero k v = refl
  keys_insert [] (suc i) k v = refl
  keys_insert (e ∷ es) zero k v = refl
  keys_insert (e ∷ es) (suc i) k v = ap (λ (ks : List K). e.0 ∷ ks) (keys_insert es i k v)

  -- an entry at its place is put in order
  pub insert_put : (es : List (K × X)) (i : ℕ) (k : K) (v : X) → Fits R (λ (e : K × X). e.0) k es i → insert es i (k, v) ≡ fin.put R k v es
  insert_put [] zero k v f = refl
  insert_put [] (suc i) k v f = refl
  insert_put (e ∷ es) zero k v f = sym (ap (λ r. by_order r ((k, v) ∷ e ∷ es) ((e.0, v) ∷ es) (e ∷ fin.put R k v es)) f)
  insert_put (e ∷ es) (suc i) k v f =
      ap (λ (rest : List (K × X)). e ∷ rest) (insert_put es i k v f.1)
      ∙ sym (ap (λ r. by_order r ((k, v) ∷ e ∷ es) ((e.0, v) ∷ es) (e ∷ fin.put R k v es)) (greater o k e.0 f.0))
