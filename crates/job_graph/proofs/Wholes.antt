-- Each vertex is taken once.
use Rattle.std.proofs.Common.{◌≡◌, ◌≢◌, ◌∙◌, ℕ, zero, suc, ◌+◌, ◌<◌, ◌≤◌, ◌⊎◌, inl, inr, Bool, true, false, List, [], ◌∷◌, ◌++◌, length, refl, sym, ap, subst, append_assoc, IsPermutation, arith}
use Rattle.std.proofs.lemmas.Bool.{cases_eq}
use Rattle.std.proofs.lemmas.List.{get_or-set_same, get_or-set_other}
use Rattle.std.proofs.lemmas.List.Sorted.{IsPermutation-refl, IsPermutation-trans, IsPermutation-append_left, IsPermutation-append_right, IsPermutation-append_comm}
use Rattle.std.proofs.Math.ListN.{set}
use Rattle.std.specs.List.{filter, flat_map, range_with_len}
use Rattle.job_graph.specs.Order.{at}

-- two lists in front change places
front_swap : {X : Type 0} (xs ys zs : List X) → IsPermutation (xs ++ (ys ++ zs)) (ys ++ (xs ++ zs))
front_swap xs ys zs =
    subst (λ l. IsPermutation l (ys ++ (xs ++ zs))) (append_assoc xs ys zs)
    (subst (λ l. IsPermutation ((xs ++ ys) ++ zs) l) (append_assoc ys xs zs)
    (IsPermutation-append_left zs (xs ++ ys) (ys ++ xs) (IsPermutation-append_comm xs ys)))

-- where tests agree, so do filters
filter_same : (p q : ℕ → Bool) (a n : ℕ) → ((k : ℕ) → a ≤ k → p k ≡ q k) → filter p (range_with_len a n) ≡ filter q (range_with_len a n)
filter_same p q a zero same = refl
filter_same p q a (suc n) same = rw (same a (omega arith), filter_same p q (a + 1) n (λ k above. same k (omega arith))) refl

-- what stands at the vertices that are left, with one taken out
pub taken_out : {X : Type 0} (f : ℕ → List X) (p q : ℕ → Bool) (v a n : ℕ) → p v ≡ true → q v ≡ false → ((k : ℕ) → k ≢ v → p k ≡ q k) → a ≤ v → v < a + n
    → IsPermutation (flat_map f (filter p (range_with_len a n))) (f v ++ flat_map f (filter q (range_with_len a n)))
taken_out f p q v a zero left taken others low high = absurd (omega arith)
taken_out f p q v a (suc n) left taken others low high =
    at_first (cases_eq a v) (λ more. taken_out f p q v (a + 1) n left taken others more (omega arith))
  where
    here : a ≡ v → IsPermutation (flat_map f (filter p (range_with_len a (suc n)))) (f v ++ flat_map f (filter q (range_with_len a (suc n))))
    here same =
        let rest = filter_same p q (a + 1) n (λ k above. others k (λ e. absurd (omega arith))) in
        let first = ap p same ∙ left in
        let gone = ap q same ∙ taken in
        rw (first, gone, rest, same) (IsPermutation-refl (f v ++ flat_map f (filter q (range_with_len (v + 1) n))))

    later : (b : Bool) → p a ≡ b → q a ≡ b → IsPermutation (flat_map f (filter p (range_with_len (a + 1) n))) (f v ++ flat_map f (filter q (range_with_len (a + 1) n)))
        → IsPermutation (flat_map f (filter p (range_with_len a (suc n)))) (f v ++ flat_map f (filter q (range_with_len a (suc n))))
    later false first second rest = rw (first, second) rest
    later true first second rest =
        rw (first, second) (IsPermutation-trans _ _ _ (IsPermutation-append_right (f a) _ _ rest) (front_swap (f a) (f v) (flat_map f (filter q (range_with_len (a + 1) n)))))

    at_first : (a ≡ v) ⊎ (a ≡ v → ⊥) → (a + 1 ≤ v → IsPermutation (flat_map f (filter p (range_with_len (a + 1) n))) (f v ++ flat_map f (filter q (range_with_len (a + 1) n))))
        → IsPermutation (flat_map f (filter p (range_with_len a (suc n)))) (f v ++ flat_map f (filter q (range_with_len a (suc n))))
    at_first (inl same) rest = here same
    at_first (inr other) rest = later (q a) (others a other) refl (rest (omega arith))

flat_map_push : {X : Type 0} (f : ℕ → List X) (xs : List ℕ) (v : ℕ) → flat_map f (xs ++ v ∷ []) ≡ flat_map f xs ++ f v
flat_map_push f [] v = nil (f v)
  where
    nil : {X : Type 0} (l : List X) → l ++ [] ≡ l
    nil [] = refl
    nil (x ∷ l) = ap (λ m. x ∷ m) (nil l)
flat_map_push f (x ∷ xs) v = ap (λ l. f x ++ l) (flat_map_push f xs v) ∙ sym (append_assoc (f x) (flat_map f xs) (f v))

-- taking a vertex keeps the whole
pub whole_more : {X : Type 0} (f : ℕ → List X) (n : ℕ) (left : List Bool) (order : List ℕ) (v : ℕ) → length left ≡ n → v < length left → at left v ≡ true
    → IsPermutation (flat_map f (range_with_len 0 n)) (flat_map f order ++ flat_map f (filter (at left) (range_with_len 0 n)))
    → IsPermutation (flat_map f (range_with_len 0 n)) (flat_map f (order ++ v ∷ []) ++ flat_map f (filter (at (set left v false)) (range_with_len 0 n)))
whole_more f n left order v len within is_left before =
    let others : (k : ℕ) → k ≢ v → at left k ≡ at (set left v false) k = λ k other. sym (get_or-set_other left v k false false other) in
    let out = taken_out f (at left) (at (set left v false)) v 0 n is_left (get_or-set_same left v false false within) others (omega arith) (omega arith) in
    rw (flat_map_push f order v, append_assoc (flat_map f order) (f v) (flat_map f (filter (at (set left v false)) (range_with_len 0 n))))
    (IsPermutation-trans _ _ _ before (IsPermutation-append_right (flat_map f order) _ _ out))

-- where none is left, the order is whole
filter_none : (p : ℕ → Bool) (a n : ℕ) → ((k : ℕ) → p k ≡ false) → filter p (range_with_len a n) ≡ []
filter_none p a zero none = refl
filter_none p a (suc n) none = rw (none a) (filter_none p (a + 1) n none)

pub whole_at_end : {X : Type 0} (f : ℕ → List X) (n : ℕ) (left : List Bool) (order : List ℕ) → ((v : ℕ) → at left v ≡ false)
    → IsPermutation (flat_map f (range_with_len 0 n)) (flat_map f order ++ flat_map f (filter (at left) (range_with_len 0 n))) → IsPermutation (flat_map f (range_with_len 0 n)) (flat_map f order)
whole_at_end f n left order none before =
    subst (λ l. IsPermutation (flat_map f (range_with_len 0 n)) l) (ap (λ l. flat_map f order ++ flat_map f l) (filter_none (at left) 0 n none) ∙ nil (flat_map f order)) before
  where
    nil : {X : Type 0} (l : List X) → l ++ [] ≡ l
    nil [] = refl
    nil (x ∷ l) = ap (λ m. x ∷ m) (nil l)

-- at the start all are left
pub whole_at_start : {X : Type 0} (f : ℕ → List X) (n : ℕ) (left : List Bool) → ((v : ℕ) → v < n → at left v ≡ true)
    → IsPermutation (flat_map f (range_with_len 0 n)) (flat_map f (filter (at left) (range_with_len 0 n)))
whole_at_start f n left all =
    subst (λ l. IsPermutation (flat_map f (range_with_len 0 n)) (flat_map f l)) (sym (filter_all (at left) 0 n (λ k low high. all k (omega arith)))) (IsPermutation-refl (flat_map f (range_with_len 0 n)))
  where
    filter_all : (p : ℕ → Bool) (a m : ℕ) → ((k : ℕ) → a ≤ k → k < a + m → p k ≡ true) → filter p (range_with_len a m) ≡ range_with_len a m
    filter_all p a zero all = refl
    filter_all p a (suc m) all = rw (all a (omega arith) (omega arith)) (ap (λ l. a ∷ l) (filter_all p (a + 1) m (λ k low high. all k (omega arith) (omega arith))))
