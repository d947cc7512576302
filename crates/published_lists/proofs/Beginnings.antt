-- Lists that begin another.
use Rattle.std.proofs.Common.{◌≡◌, ⊎_elim, ℕ, zero, suc, leb, cond, ◌<◌, ◌≤◌, min, List, [], ◌∷◌, ◌++◌, length, take, true, false, nat_lt, sym, refl, ap, ◌∙◌, arith}
use Rattle.std.proofs.lemmas.List.{length-take, take_all}
use Rattle.std.proofs.Math.Seq.{take-append_seam, take-length}
use Rattle.std.proofs.lemmas.Bool.{le-ltb, lt-ltb}
use Rattle.std.proofs.lemmas.Bool.Decides.{leb_tells}
use Rattle.published_lists.specs.Beginnings.{IsBeginning, longer}

module _ {A : Type 0} where
  pub begins_self : (xs : List A) → IsBeginning xs xs
  begins_self xs = take-length xs

  pub begins_none : (xs : List A) → IsBeginning [] xs
  begins_none xs = refl

  pub begins_more : (xs ys : List A) → IsBeginning xs (xs ++ ys)
  begins_more xs ys = take-append_seam xs ys

  pub begins_length : (xs ys : List A) → IsBeginning xs ys → length xs ≤ length ys
  begins_length xs ys h = let e : min (length xs) (length ys) ≡ length xs = sym (length-take (length xs) ys) ∙ ap length h in omega (arith, e)

  take_of_take : (m n : ℕ) (xs : List A) → m ≤ n → take m (take n xs) ≡ take m xs
  take_of_take zero n xs h = refl
  take_of_take (suc m) zero xs h = absurd (omega arith)
  take_of_take (suc m) (suc n) [] h = refl
  take_of_take (suc m) (suc n) (x ∷ xs) h = ap (λ l. x ∷ l) (take_of_take m n xs (omega arith))

  pub begins_trans : (xs ys zs : List A) → IsBeginning xs ys → IsBeginning ys zs → IsBeginning xs zs
  begins_trans xs ys zs h k = sym (take_of_take (length xs) (length ys) zs (begins_length xs ys h)) ∙ (ap (take (length xs)) k ∙ h)

  pub begins_take : (n : ℕ) (xs : List A) → IsBeginning (take n xs) xs
  begins_take zero xs = refl
  begins_take (suc n) [] = refl
  begins_take (suc n) (x ∷ xs) = ap (λ l. x ∷ l) (begins_take n xs)

  pub take_of_more : (n : ℕ) (xs ys : List A) → IsBeginning xs ys → n ≤ length xs → take n ys ≡ take n xs
  take_of_more n xs ys h le = sym (take_of_take n (length xs) ys le) ∙ ap (take n) h

  pub begins_whole : (xs ys : List A) → IsBeginning xs ys → length ys ≤ length xs → xs ≡ ys
  begins_whole xs ys h le = sym h ∙ take_all (length xs) ys le

  longer_cases : (P : List A → Type 0) (xs ys : List A) → P xs → P ys → P (longer xs ys)
  longer_cases P xs ys p q = elim (nat_lt (length xs) (length ys)) as (λ b. P (cond b ys xs)) [ true ↦ q | false ↦ p ]

  pub begins_longer : (xs ys zs : List A) → IsBeginning xs zs → IsBeginning ys zs → IsBeginning (longer xs ys) zs
  begins_longer xs ys zs h k = longer_cases (λ l. IsBeginning l zs) xs ys h k

  pub take_of_none : (n : ℕ) → take {A = A} n [] ≡ []
  take_of_none zero = refl
  take_of_none (suc n) = refl

  pub longer_first : (xs ys : List A) → length ys ≤ length xs → longer xs ys ≡ xs
  longer_first xs ys h = ap (λ b. cond b ys xs) (le-ltb (length xs) (length ys) h)

  pub longer_second : (xs ys : List A) → length xs < length ys → longer xs ys ≡ ys
  longer_second xs ys h = ap (λ b. cond b ys xs) (lt-ltb (length xs) (length ys) h)

  assoc_third : (xs ys zs : List A) → length ys < length zs → longer (longer xs ys) zs ≡ longer xs (longer ys zs)
  assoc_third xs ys zs h = ⊎_elim
      (λ (k : (leb (length ys) (length xs) ≡ true) × (length ys ≤ length xs)).
      ap (λ l. longer l zs) (longer_first xs ys k.1) ∙ ap (longer xs) (sym (longer_second ys zs h)))
      (λ (k : (leb (length ys) (length xs) ≡ false) × (length xs < length ys)).
      ap (λ l. longer l zs) (longer_second xs ys k.1) ∙ (longer_second ys zs h ∙ (sym (longer_second xs zs (omega (arith, h, k.1))) ∙ ap (longer xs) (sym (longer_second ys zs h)))))
      (leb_tells (length ys) (length xs))

  assoc_second : (xs ys zs : List A) → length zs ≤ length ys → longer (longer xs ys) zs ≡ longer xs (longer ys zs)
  assoc_second xs ys zs h = ⊎_elim
      (λ (k : (leb (length ys) (length xs) ≡ true) × (length ys ≤ length xs)).
      ap (λ l. longer l zs) (longer_first xs ys k.1) ∙ (longer_first xs zs (omega (arith, h, k.1)) ∙ (sym (longer_first xs ys k.1) ∙ ap (longer xs) (sym (longer_first ys zs h)))))
      (λ (k : (leb (length ys) (length xs) ≡ false) × (length xs < length ys)).
      ap (λ l. longer l zs) (longer_second xs ys k.1) ∙ (longer_first ys zs h ∙ (sym (longer_second xs ys k.1) ∙ ap (longer xs) (sym (longer_first ys zs h)))))
      (leb_tells (length ys) (length xs))

  pub longer_assoc : (xs ys zs : List A) → longer (longer xs ys) zs ≡ longer xs (longer ys zs)
  longer_assoc xs ys zs = ⊎_elim (λ (k : (leb (length zs) (length ys) ≡ true) × (length zs ≤ length ys)). assoc_second xs ys zs k.1) (λ (k : (leb (length zs) (length ys) ≡ false) × (length ys < length zs)). assoc_third xs ys zs k.1) (leb_tells (length zs) (length ys))
