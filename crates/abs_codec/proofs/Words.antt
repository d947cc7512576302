-- The order of texts, by their first bytes as one number.
use Rattle.std.proofs.Common.{◌≡◌, ℕ, zero, suc, ◌+◌, ◌*◌, ◌^◌, ◌<◌, ◌≤◌, List, [], ◌∷◌, ◌++◌, length, take, slice_index as at, refl, sym, ap, ◌∙◌, arith, inl, inr}
use Rattle.std.specs.Int.{w64, from_be_bytes, to_be_bytes}
use Rattle.std.specs.Ordering.{nat_cmp, ordering_then, ordering_reverse}
use Rattle.std.specs.declared.cmp.Ordering.{Ordering}
use Rattle.std.specs.declared.cmp.Ordering.TheVariants.{Less, Equal, Greater}
use Rattle.std.specs.Cmp.{nat_cmp_is}
use Rattle.std.specs.Cmp.Lexicographic.{slice_cmp, nat_list_cmp_total}
use Rattle.std.proofs.lemmas.Bool.{cases_lt}
use Rattle.std.proofs.lemmas.Nat.{mul-le}
use Rattle.std.proofs.Math.Seq.{take-append-add}
use Rattle.std.specs.Prelude.{Option, Some, None, IfSome}
use Rattle.abs_codec.specs.Numbers.{wide64}
use Rattle.abs_codec.specs.Reading.{IsBytes}
use Rattle.abs_codec.specs.Words.{leading, IsFirstWord}

abbrev texts_cmp : List ℕ → List ℕ → Ordering
texts_cmp xs ys = slice_cmp nat_cmp xs ys

below_one_more : (n : ℕ) (xs : List ℕ) → IsBytes xs → leading n xs < 256 ^ n
below_one_more zero xs h = omega arith
below_one_more (suc n) [] h = omega (arith, below_one_more n [] h)
below_one_more (suc n) (x ∷ xs) h =
    omega (arith, below_one_more n xs (λ i. h (suc i)), mul-le (x + 1) (256 ^ n) 256 (256 ^ n) (omega (arith, h 0)) (omega arith))

-- a lower byte outweighs whatever follows
outweighs : (n x y p q : ℕ) → p < 256 ^ n → x < y → x * 256 ^ n + p < y * 256 ^ n + q
outweighs n x y p q h lower = omega (arith, h, mul-le (x + 1) (256 ^ n) y (256 ^ n) (omega (arith, lower)) (omega arith))

one_less : (x y : ℕ) (xs ys : List ℕ) → x < y → texts_cmp (x ∷ xs) (y ∷ ys) ≡ Less
one_less x y xs ys h = ap (λ r. ordering_then r (texts_cmp xs ys)) (sym (nat_cmp_is x y Less h))

one_same : (x y : ℕ) (xs ys : List ℕ) → x ≡ y → texts_cmp (x ∷ xs) (y ∷ ys) ≡ texts_cmp xs ys
one_same x y xs ys e = ap (λ r. ordering_then r (texts_cmp xs ys)) (sym (nat_cmp_is x y Equal e))

lower_first : (n : ℕ) (xs ys : List ℕ) → IsBytes xs → IsBytes ys → leading n xs < leading n ys → texts_cmp xs ys ≡ Less
lower_first zero xs ys h k less = absurd (omega (arith, less))
lower_first (suc n) [] [] h k less = absurd (omega (arith, less))
lower_first (suc n) [] (y ∷ ys) h k less = refl
lower_first (suc n) (x ∷ xs) [] h k less = absurd (omega (arith, less))
lower_first (suc n) (x ∷ xs) (y ∷ ys) h k less =
    elim (cases_lt x y) [
      | inl lt ↦ one_less x y xs ys lt
      | inr not_less ↦ elim (cases_lt y x) [
        | inl gt ↦ absurd (omega (arith, less, outweighs n y x (leading n ys) (leading n xs) (below_one_more n ys (λ i. k (suc i))) gt))
        | inr not_more ↦
            let same : x ≡ y = omega (arith, not_less, not_more) in
            one_same x y xs ys same ∙ lower_first n xs ys (λ i. h (suc i)) (λ i. k (suc i)) (omega (arith, less, ap (λ z. z * 256 ^ n) same))
      ]
    ]

one_longer : (m n : ℕ) → nat_cmp m n ≡ nat_cmp (suc m) (suc n)
one_longer m n =
    elim (cases_lt m n) [
      | inl lt ↦ sym (nat_cmp_is m n Less lt) ∙ nat_cmp_is (suc m) (suc n) Less (omega (arith, lt))
      | inr not_less ↦ elim (cases_lt n m) [
        | inl gt ↦ sym (nat_cmp_is m n Greater gt) ∙ nat_cmp_is (suc m) (suc n) Greater (omega (arith, gt))
        | inr not_more ↦ sym (nat_cmp_is m n Equal (omega (arith, not_less, not_more))) ∙ nat_cmp_is (suc m) (suc n) Equal (omega (arith, not_less, not_more))
      ]
    ]

-- short texts with the same number are told apart by their lengths
by_lengths : (n : ℕ) (xs ys : List ℕ) → IsBytes xs → IsBytes ys → length xs ≤ n → length ys ≤ n → leading n xs ≡ leading n ys → texts_cmp xs ys ≡ nat_cmp (length xs) (length ys)
by_lengths n [] [] h k short short' same = nat_cmp_is 0 0 Equal refl
by_lengths n [] (y ∷ ys) h k short short' same = nat_cmp_is 0 (length (y ∷ ys)) Less (omega arith)
by_lengths n (x ∷ xs) [] h k short short' same = nat_cmp_is (length (x ∷ xs)) 0 Greater (omega arith)
by_lengths zero (x ∷ xs) (y ∷ ys) h k short short' same = absurd (omega (arith, short))
by_lengths (suc n) (x ∷ xs) (y ∷ ys) h k short short' same =
    elim (cases_lt x y) [
      | inl lt ↦ absurd (omega (arith, same, outweighs n x y (leading n xs) (leading n ys) (below_one_more n xs (λ i. h (suc i))) lt))
      | inr not_less ↦ elim (cases_lt y x) [
        | inl gt ↦ absurd (omega (arith, same, outweighs n y x (leading n ys) (leading n xs) (below_one_more n ys (λ i. k (suc i))) gt))
        | inr not_more ↦
            let first : x ≡ y = omega (arith, not_less, not_more) in
            one_same x y xs ys first
            ∙ by_lengths n xs ys (λ i. h (suc i)) (λ i. k (suc i)) (omega (arith, short)) (omega (arith, short')) (omega (arith, same, ap (λ z. z * 256 ^ n) first))
            ∙ one_longer (length xs) (length ys)
      ]
    ]

-- texts with different first words stand as these do
pub by_words : (xs ys : List ℕ) (x y : ℕ) → IsFirstWord xs x → IsFirstWord ys y → (x ≡ y → ⊥) → nat_cmp x y ≡ texts_cmp xs ys
by_words xs ys x y f g differ =
    elim (cases_lt x y) [
      | inl lt ↦ sym (nat_cmp_is x y Less lt) ∙ sym (lower_first 8 xs ys f.bytes g.bytes (omega (arith, lt, f.made, g.made)))
      | inr not_less ↦
          let gt : y < x = omega (arith, not_less, differ) in
          let turned : texts_cmp ys xs ≡ Less = lower_first 8 ys xs g.bytes f.bytes (omega (arith, gt, f.made, g.made)) in
          sym (nat_cmp_is x y Greater gt) ∙ sym (nat_list_cmp_total.antisymm xs ys ∙ ap ordering_reverse turned)
    ]

-- texts of at most eight bytes with one first word stand as their lengths do
pub short_texts : (xs ys : List ℕ) (x y : ℕ) → IsFirstWord xs x → IsFirstWord ys y → x ≡ y → length xs ≤ 8 → length ys ≤ 8 → nat_cmp (length xs) (length ys) ≡ texts_cmp xs ys
short_texts xs ys x y f g same short short' = sym (by_lengths 8 xs ys f.bytes g.bytes short short' (sym f.made ∙ same ∙ g.made))

-- the first eight bytes of a text, and zeros past its end
abbrev eight : List ℕ → List ℕ
eight xs = at xs 0 ∷ at xs 1 ∷ at xs 2 ∷ at xs 3 ∷ at xs 4 ∷ at xs 5 ∷ at xs 6 ∷ at xs 7 ∷ []

-- the bytes of a text, and zeros past its end, as a number
pub padded : (xs : List ℕ) → from_be_bytes w64 (eight xs) ≡ leading 8 xs
padded [] = omega arith
padded (a ∷ []) = omega arith
padded (a ∷ b ∷ []) = omega arith
padded (a ∷ b ∷ c ∷ []) = omega arith
padded (a ∷ b ∷ c ∷ d ∷ []) = omega arith
padded (a ∷ b ∷ c ∷ d ∷ e ∷ []) = omega arith
padded (a ∷ b ∷ c ∷ d ∷ e ∷ f ∷ []) = omega arith
padded (a ∷ b ∷ c ∷ d ∷ e ∷ f ∷ g ∷ []) = omega arith
padded (a ∷ b ∷ c ∷ d ∷ e ∷ f ∷ g ∷ h ∷ rest) = omega arith

are_bytes : (xs : List ℕ) → IsBytes xs → IsBytes (eight xs)
are_bytes xs h zero = h 0
are_bytes xs h (suc zero) = h 1
are_bytes xs h (suc (suc zero)) = h 2
are_bytes xs h (suc (suc (suc zero))) = h 3
are_bytes xs h (suc (suc (suc (suc zero)))) = h 4
are_bytes xs h (suc (suc (suc (suc (suc zero))))) = h 5
are_bytes xs h (suc (suc (suc (suc (suc (suc zero)))))) = h 6
are_bytes xs h (suc (suc (suc (suc (suc (suc (suc zero))))))) = h 7
are_bytes xs h (suc (suc (suc (suc (suc (suc (suc (suc i)))))))) = omega arith

front : (xs : List ℕ) → length xs ≤ 8 → take (length xs) (eight xs) ≡ xs
front [] short = refl
front (a ∷ []) short = refl
front (a ∷ b ∷ []) short = refl
front (a ∷ b ∷ c ∷ []) short = refl
front (a ∷ b ∷ c ∷ d ∷ []) short = refl
front (a ∷ b ∷ c ∷ d ∷ e ∷ []) short = refl
front (a ∷ b ∷ c ∷ d ∷ e ∷ f ∷ []) short = refl
front (a ∷ b ∷ c ∷ d ∷ e ∷ f ∷ g ∷ []) short = refl
front (a ∷ b ∷ c ∷ d ∷ e ∷ f ∷ g ∷ h ∷ []) short = refl
front (a ∷ b ∷ c ∷ d ∷ e ∷ f ∷ g ∷ h ∷ i ∷ rest) short = absurd (omega (arith, short))

-- a text of at most eight bytes is the front of its first word
pub word_bytes : (xs : List ℕ) (x : ℕ) → IsFirstWord xs x → length xs ≤ 8 → take (length xs) (to_be_bytes w64 x) ≡ xs
word_bytes xs x f short =
    let same : x ≡ from_be_bytes w64 (eight xs) = f.made ∙ sym (padded xs) in
    let spelled : to_be_bytes w64 x ≡ eight xs = ap (to_be_bytes w64) same ∙ wide64.back (eight xs) refl (are_bytes xs f.bytes) in
    ap (take (length xs)) spelled ∙ front xs short

-- what is left of a head of four bytes and a word behind it, where it is cut inside the word
pub cut : (kept head word : List ℕ) (end n : ℕ) → length head ≡ 4 → end ≡ length kept + 4 + n → take end (kept ++ (head ++ word)) ≡ kept ++ (head ++ take n word)
cut kept head word end n four e =
    let whole : end ≡ length kept + (length head + n) = omega (arith, e, four) in
    ap (λ k. take k (kept ++ (head ++ word))) whole ∙ take-append-add kept (head ++ word) (length head + n) ∙ ap (λ w. kept ++ w) (take-append-add head word n)

-- what is so of one answer is so of another that follows from it
pub answered : {P Q : ℕ → Type 0} → (o : Option ℕ) → ((n : ℕ) → P n → Q n) → IfSome o P → IfSome o Q
answered None follows h = h
answered (Some n) follows h = follows n h
