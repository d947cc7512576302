-- Lists joined end to end, by index.
use Rattle.std.proofs.Common.{◌≡◌, ◌∙◌, ℕ, zero, suc, ◌+◌, ◌<◌, ◌≤◌, ◌⊎◌, inl, inr, List, [], ◌∷◌, ◌++◌, length, take, map, Option, Some, None, option_map, slice_get, refl, sym, ap, length-append, arith}
use Rattle.std.proofs.lemmas.Option.{slice_get-map}
use Rattle.std.specs.List.{flat_map, range_with_len}

pub slice_get_front : {X : Type 0} (xs ys : List X) (k : ℕ) (x : X) → slice_get xs k ≡ Some x → slice_get (xs ++ ys) k ≡ Some x
slice_get_front [] ys k x is = cc
slice_get_front (z ∷ xs) ys zero x is = is
slice_get_front (z ∷ xs) ys (suc k) x is = slice_get_front xs ys k x is

pub slice_get_behind : {X : Type 0} (xs ys : List X) (m j : ℕ) → m ≡ length xs + j → slice_get (xs ++ ys) m ≡ slice_get ys j
slice_get_behind [] ys m j place = ap (slice_get ys) (let same : m ≡ j = omega arith in same)
slice_get_behind (x ∷ xs) ys zero j place = absurd (omega arith)
slice_get_behind (x ∷ xs) ys (suc m) j place = slice_get_behind xs ys m j (omega arith)

-- an element of two lists is one of the first, or one of the second
pub slice_get_either : {X : Type 0} (xs ys : List X) (m : ℕ) (x : X) → slice_get (xs ++ ys) m ≡ Some x → (slice_get xs m ≡ Some x) ⊎ ((j : ℕ) × (m ≡ length xs + j) × (slice_get ys j ≡ Some x))
slice_get_either [] ys m x is = inr (m, (omega arith), is)
slice_get_either (z ∷ xs) ys zero x is = inl is
slice_get_either (z ∷ xs) ys (suc m) x is = by (slice_get_either xs ys m x is)
  where
    by : (slice_get xs m ≡ Some x) ⊎ ((j : ℕ) × (m ≡ length xs + j) × (slice_get ys j ≡ Some x)) → (slice_get xs m ≡ Some x) ⊎ ((j : ℕ) × (suc m ≡ suc (length xs) + j) × (slice_get ys j ≡ Some x))
    by (inl first) = inl first
    by (inr second) = inr (second.0, (let e = second.1 in omega arith), second.2)

-- how many elements stand before those of place k
abbrev pub offset : {X A : Type 0} → (X → List A) → List X → ℕ → ℕ
offset f xs k = length (flat_map f (take k xs))

pub has_at : {X A : Type 0} (f : X → List A) (xs : List X) (k i : ℕ) (x : X) (y : A) → slice_get xs k ≡ Some x → slice_get (f x) i ≡ Some y → slice_get (flat_map f xs) (offset f xs k + i) ≡ Some y
has_at f [] k i x y is there = cc
has_at f (z ∷ xs) zero i x y is there =
    let same : z ≡ x = cc in
    let none : 0 + i ≡ i = omega arith in
    rw (same, none) (slice_get_front (f x) (flat_map f xs) i y there)
has_at f (z ∷ xs) (suc k) i x y is there =
    let len = length-append (f z) (flat_map f (take k xs)) in
    slice_get_behind (f z) (flat_map f xs) (length (f z ++ flat_map f (take k xs)) + i) (offset f xs k + i) (omega arith) ∙ has_at f xs k i x y is there

-- where an element comes from
pub record IsFrom {X A : Type 0} (f : X → List A) (xs : List X) (p : ℕ) (y : A) : Type 0 where
  pub k : ℕ
  pub x : X
  pub i : ℕ
  pub is_x : slice_get xs k ≡ Some x
  pub is_y : slice_get (f x) i ≡ Some y
  pub place : p ≡ offset f xs k + i

pub origin_at : {X A : Type 0} (f : X → List A) (xs : List X) (p : ℕ) (y : A) → slice_get (flat_map f xs) p ≡ Some y → IsFrom f xs p y
origin_at f [] p y is = cc
origin_at f (z ∷ xs) p y is = by (slice_get_either (f z) (flat_map f xs) p y is) (λ j. origin_at f xs j y)
  where
    by : (slice_get (f z) p ≡ Some y) ⊎ ((j : ℕ) × (p ≡ length (f z) + j) × (slice_get (flat_map f xs) j ≡ Some y)) → ((j : ℕ) → slice_get (flat_map f xs) j ≡ Some y → IsFrom f xs j y) → IsFrom f (z ∷ xs) p y
    by (inl first) rest = record { k = 0; x = z; i = p; is_x = refl; is_y = first; place = omega arith }
    by (inr second) rest =
        let from = rest second.0 second.2 in
        let len = length-append (f z) (flat_map f (take from.k xs)) in
        let e = second.1 in
        let place = from.place in
        record { k = suc from.k; x = from.x; i = from.i; is_x = from.is_x; is_y = from.is_y; place = omega arith }

pub offset_rises : {X A : Type 0} (f : X → List A) (xs : List X) (m k : ℕ) (x : X) → slice_get xs m ≡ Some x → m < k → offset f xs m + length (f x) ≤ offset f xs k
offset_rises f [] m k x is less = cc
offset_rises f (z ∷ xs) zero zero x is less = absurd (omega arith)
offset_rises f (z ∷ xs) zero (suc k) x is less =
    let same : z ≡ x = cc in
    let len = length-append (f z) (flat_map f (take k xs)) in
    let lens = ap (λ w. length (f w)) same in
    omega arith
offset_rises f (z ∷ xs) (suc m) zero x is less = absurd (omega arith)
offset_rises f (z ∷ xs) (suc m) (suc k) x is less =
    let rest = offset_rises f xs m k x is (omega arith) in
    let one = length-append (f z) (flat_map f (take m xs)) in
    let two = length-append (f z) (flat_map f (take k xs)) in
    omega arith

-- ---- ranges

pub range_at : (a n k : ℕ) → k < n → slice_get (range_with_len a n) k ≡ Some (a + k)
range_at a zero k within = absurd (omega arith)
range_at a (suc n) zero within = ap (λ j. Some j) (let e : a ≡ a + 0 = omega arith in e)
range_at a (suc n) (suc k) within = range_at (a + 1) n k (omega arith) ∙ ap (λ j. Some j) (let e : a + 1 + k ≡ a + suc k = omega arith in e)

pub range_from : (a n k j : ℕ) → slice_get (range_with_len a n) k ≡ Some j → (k < n) × (j ≡ a + k)
range_from a zero k j is = cc
range_from a (suc n) zero j is = let e : a ≡ j = cc in (omega arith, omega arith)
range_from a (suc n) (suc k) j is = let rest = range_from (a + 1) n k j is in (omega arith, omega arith)

pub mapped_at : {A : Type 0} (f : ℕ → A) (n k : ℕ) → k < n → slice_get (map f (range_with_len 0 n)) k ≡ Some (f k)
mapped_at f n k within =
    let same : 0 + k ≡ k = omega arith in
    slice_get-map f (range_with_len 0 n) k ∙ ap (λ (o : Option ℕ). option_map f o) (range_at 0 n k within) ∙ ap (λ j. Some (f j)) same

option_map_some : {X A : Type 0} (f : X → A) (o : Option X) (y : A) → option_map f o ≡ Some y → (x : X) × (o ≡ Some x) × (f x ≡ y)
option_map_some f None y is = cc
option_map_some f (Some x) y is = (x, refl, cc)

pub map_from : {X A : Type 0} (f : X → A) (xs : List X) (k : ℕ) (y : A) → slice_get (map f xs) k ≡ Some y → (x : X) × (slice_get xs k ≡ Some x) × (f x ≡ y)
map_from f xs k y is = option_map_some f (slice_get xs k) y (sym (slice_get-map f xs k) ∙ is)

pub mapped_from : {A : Type 0} (f : ℕ → A) (n k : ℕ) (y : A) → slice_get (map f (range_with_len 0 n)) k ≡ Some y → (k < n) × (f k ≡ y)
mapped_from f n k y is =
    let from = map_from f (range_with_len 0 n) k y is in
    let number = range_from 0 n k from.0 from.1 in
    let same : from.0 ≡ k = omega arith in
    (number.0, ap f (sym same) ∙ from.2)
