-- The first line of a text.
use Rattle.std.proofs.Common.{◌≡◌, ◌≢◌, ◌∙◌, ℕ, zero, suc, ◌+◌, ◌-◌, ◌<◌, ◌≤◌, ◌==◌, Bool, true, false, cond, List, [], ◌∷◌, ◌++◌, length, get_or, get_or-take, length-take-le, length-drop, take, drop, refl, sym, ap, ap₂, subst, arith, eq-eqb, eqb-true, ne_eqb}
use Rattle.std.proofs.lemmas.Bool.{eqb-false}
use Rattle.std.proofs.lemmas.List.{get_or-drop}
use Rattle.std.specs.Io.{IsEmptyOrEndsWith}
use Rattle.std.specs.Io.BufRead.{take_through, drop_through}

-- its length, where its end stands at k
pub len_with_end : (xs : List ℕ) (k : ℕ) → k < length xs → get_or xs k 0 ≡ 10 → ((j : ℕ) → j < k → get_or xs j 0 ≢ 10) → length (take_through 10 xs) ≡ suc k
len_with_end [] k less at before = absurd (omega (arith, less))
len_with_end (x ∷ xs) zero less at before = rw (eq-eqb x 10 at) refl
len_with_end (x ∷ xs) (suc k) less at before =
    let other : x ≢ 10 = before 0 (omega arith) in
    rw (ne_eqb x 10 other) (ap suc (len_with_end xs k (omega (arith, less)) at (λ j l. before (suc j) (omega (arith, l)))))

pub len_with_none : (xs : List ℕ) → ((j : ℕ) → j < length xs → get_or xs j 0 ≢ 10) → length (take_through 10 xs) ≡ length xs
len_with_none [] before = refl
len_with_none (x ∷ xs) before =
    let other : x ≢ 10 = before 0 (omega arith) in
    rw (ne_eqb x 10 other) (ap suc (len_with_none xs (λ j l. before (suc j) (omega (arith, l)))))

pub len_within : (xs : List ℕ) → length (take_through 10 xs) ≤ length xs
len_within [] = omega arith
len_within (x ∷ xs) = by (x == 10) (len_within xs)
  where
    by : (b : Bool) → length (take_through 10 xs) ≤ length xs → length (cond b (x ∷ []) (x ∷ take_through 10 xs)) ≤ suc (length xs)
    by true within = omega arith
    by false within = omega (arith, within)

pub some_line : (xs : List ℕ) → 0 < length xs → 0 < length (take_through 10 xs)
some_line [] some = some
some_line (x ∷ xs) some = by (x == 10)
  where
    by : (b : Bool) → 0 < length (cond b (x ∷ []) (x ∷ take_through 10 xs))
    by true = omega arith
    by false = omega arith

pub take_line : (xs : List ℕ) → take (length (take_through 10 xs)) xs ≡ take_through 10 xs
take_line [] = refl
take_line (x ∷ xs) = by (x == 10) (take_line xs)
  where
    by : (b : Bool) → take (length (take_through 10 xs)) xs ≡ take_through 10 xs → take (length (cond b (x ∷ []) (x ∷ take_through 10 xs))) (x ∷ xs) ≡ cond b (x ∷ []) (x ∷ take_through 10 xs)
    by true line = refl
    by false line = ap (λ l. x ∷ l) line

pub drop_line : (xs : List ℕ) → drop (length (take_through 10 xs)) xs ≡ drop_through 10 xs
drop_line [] = refl
drop_line (x ∷ xs) = by (x == 10) (drop_line xs)
  where
    by : (b : Bool) → drop (length (take_through 10 xs)) xs ≡ drop_through 10 xs → drop (length (cond b (x ∷ []) (x ∷ take_through 10 xs))) (x ∷ xs) ≡ cond b xs (drop_through 10 xs)
    by true rest = refl
    by false rest = rest

-- a line with something behind it has its end
pub ends : (xs : List ℕ) (k : ℕ) → length (take_through 10 xs) ≡ suc k → suc k < length xs → get_or xs k 0 ≡ 10
ends [] k len more = absurd (omega (arith, more))
ends (x ∷ xs) k len more = by (x == 10) refl len (ends xs)
  where
    Ends : Type 0
    Ends = (j : ℕ) → length (take_through 10 xs) ≡ suc j → suc j < length xs → get_or xs j 0 ≡ 10

    behind : (j : ℕ) → length (take_through 10 xs) ≡ j → suc j < suc (length xs) → Ends → get_or (x ∷ xs) j 0 ≡ 10
    behind zero none less rest = absurd (omega (arith, some_line xs (omega (arith, less)), none))
    behind (suc j) is less rest = rest j is (omega (arith, less))

    by : (b : Bool) → (x == 10) ≡ b → length (cond b (x ∷ []) (x ∷ take_through 10 xs)) ≡ suc k → Ends → get_or (x ∷ xs) k 0 ≡ 10
    by true e is rest =
        let first : 0 ≡ k = omega (arith, is) in
        subst (λ j. get_or (x ∷ xs) j 0 ≡ 10) first (eqb-true x 10 e)
    by false e is rest = behind k (omega (arith, is)) more rest

-- a text that is cut behind an end of a line has that end at the end of its front
pub cut_ends : (text front back : List ℕ) (at n : ℕ) → at ≤ length text → n ≡ length (take_through 10 (drop at text)) → front ≡ take (at + n) text → length back + (at + n) ≡ length text → 0 < length back
    → get_or front (length front - 1) 0 ≡ 10
cut_ends text front back at n within is made all some =
    let left : at + length (drop at text) ≡ length text = omega (arith, length-drop at text) in
    let one : 0 < length (take_through 10 (drop at text)) = some_line (drop at text) (omega (arith, left, all, some)) in
    let last : length (take_through 10 (drop at text)) ≡ suc (n - 1) = omega (arith, is, one) in
    let byte = ends (drop at text) (n - 1) last (omega (arith, is, one, left, all, some)) in
    let long : length front ≡ at + n = ap length made ∙ length-take-le (at + n) text (omega (arith, all)) in
    let index : length front - 1 ≡ at + (n - 1) = omega (arith, long, is, one) in
    ap₂ (λ l k. get_or l k 0) made index ∙ get_or-take (at + n) text (at + (n - 1)) 0 (omega (arith, is, one)) ∙ sym (get_or-drop at text (n - 1) 0) ∙ byte

-- ---- a text whose last line has its end

ends_behind : (x : ℕ) (xs : List ℕ) → IsEmptyOrEndsWith (x ∷ xs) 10 → IsEmptyOrEndsWith xs 10
ends_behind x [] ends some = absurd (omega (arith, some))
ends_behind x (y ∷ ys) ends some =
    let index : suc (length (y ∷ ys)) - 1 ≡ suc (length (y ∷ ys) - 1) = omega arith in
    sym (ap (λ k. get_or (x ∷ y ∷ ys) k 0) index) ∙ ends (omega arith)

more_behind : (x : ℕ) (xs : List ℕ) → (x == 10) ≡ false → IsEmptyOrEndsWith (x ∷ xs) 10 → 0 < length xs
more_behind x [] other ends = absurd (eqb-false x 10 other (ends (omega arith)))
more_behind x (y ∷ ys) other ends = omega arith

pub take_front : (xs ys : List ℕ) → 0 < length xs → IsEmptyOrEndsWith xs 10 → take_through 10 (xs ++ ys) ≡ take_through 10 xs
take_front [] ys some ends = absurd (omega (arith, some))
take_front (x ∷ xs) ys some ends = by (x == 10) refl (λ e. take_front xs ys (more_behind x xs e ends) (ends_behind x xs ends))
  where
    by : (b : Bool) → (x == 10) ≡ b → ((x == 10) ≡ false → take_through 10 (xs ++ ys) ≡ take_through 10 xs) → cond b (x ∷ []) (x ∷ take_through 10 (xs ++ ys)) ≡ cond b (x ∷ []) (x ∷ take_through 10 xs)
    by true e rest = refl
    by false e rest = ap (λ l. x ∷ l) (rest e)

pub drop_front : (xs ys : List ℕ) → 0 < length xs → IsEmptyOrEndsWith xs 10 → drop_through 10 (xs ++ ys) ≡ drop_through 10 xs ++ ys
drop_front [] ys some ends = absurd (omega (arith, some))
drop_front (x ∷ xs) ys some ends = by (x == 10) refl (λ e. drop_front xs ys (more_behind x xs e ends) (ends_behind x xs ends))
  where
    by : (b : Bool) → (x == 10) ≡ b → ((x == 10) ≡ false → drop_through 10 (xs ++ ys) ≡ drop_through 10 xs ++ ys) → cond b (xs ++ ys) (drop_through 10 (xs ++ ys)) ≡ cond b xs (drop_through 10 xs) ++ ys
    by true e rest = refl
    by false e rest = rest e

pub still_ends : (xs : List ℕ) → IsEmptyOrEndsWith xs 10 → IsEmptyOrEndsWith (drop_through 10 xs) 10
still_ends [] ends = ends
still_ends (x ∷ xs) ends = by (x == 10) (still_ends xs (ends_behind x xs ends))
  where
    by : (b : Bool) → IsEmptyOrEndsWith (drop_through 10 xs) 10 → IsEmptyOrEndsWith (cond b xs (drop_through 10 xs)) 10
    by true rest = ends_behind x xs ends
    by false rest = rest
