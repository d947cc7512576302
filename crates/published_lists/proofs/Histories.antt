-- Histories whose entries begin the last one.
use Rattle.std.proofs.Common.{◌≡◌, ℕ, suc, ◌<◌, ◌≤◌, List, [], ◌∷◌, ◌++◌, length, fold, refl, sym, subst, arith, ⊎_elim, leb, true, false, MatchBool, ◌+◌, length-append}
use Rattle.std.specs.List.{All}
use Rattle.std.proofs.lemmas.List.Elements.{All-append}
use Rattle.std.proofs.lemmas.List.Sums.{fold-append}
use Rattle.std.proofs.lemmas.Bool.Decides.{leb_tells}
use mathlib.Core.List.{IsPrefix}
use Rattle.published_lists.specs.Rows.{EachBegins}
use Rattle.published_lists.specs.Editions.{Edition, Follows, last_of, IsRising}
use Rattle.published_lists.proofs.EachRow.{each_self, each_trans, none_begin}

abbrev pub Lists : Type 0
Lists = List (List (List ℕ))

-- a beginning as long as the whole is the whole
pub prefix_whole : (xs ys : List Lists) → IsPrefix xs ys → length ys ≤ length xs → xs ≡ ys
prefix_whole [] [] p le = refl
prefix_whole [] (y ∷ ys) p le = absurd (omega arith)
prefix_whole (x ∷ xs) [] p le = absurd (cc (p.1))
prefix_whole (x ∷ xs) (y ∷ ys) p le =
    let rest = prefix_whole xs ys (p.0, cc (p.1)) (omega arith) in cc (p.1, rest)

-- The last entry of the shorter of two beginnings of one list begins the longer's, where all entries there do.
last_from : (a y : Lists) (xs ys zs : List Lists) → EachBegins a y → All (λ x. EachBegins x y) ys → IsPrefix xs zs → IsPrefix ys zs → length xs ≤ length ys → EachBegins (fold (λ _ next. next) a xs) y
last_from a y [] ys zs h all p q le = h
last_from a y (x ∷ xs) [] zs h all p q le = absurd (omega arith)
last_from a y (x ∷ xs) (z ∷ ys) [] h all p q le = absurd (cc (p.1))
last_from a y (x ∷ xs) (z ∷ ys) (w ∷ zs) h all p q le =
    let same : z ≡ x = cc (p.1, q.1) in
    let first : EachBegins z y = all 0 z (omega arith) in
    let here : EachBegins x y = subst (λ v. EachBegins v y) same first in last_from x y xs ys zs here (λ k d lt. all (suc k) d (omega arith)) (p.0, cc (p.1)) (q.0, cc (q.1)) (omega arith)

pub last_begins : (xs ys zs : List Lists) → IsRising ys → IsPrefix xs zs → IsPrefix ys zs → length xs ≤ length ys → EachBegins (last_of xs) (last_of ys)
last_begins xs ys zs all p q le = last_from [] (last_of ys) xs ys zs (none_begin (last_of ys)) all p q le

-- the last of some entries is the one that was put last
pub last_put : (log : List Lists) (e : Lists) → last_of (log ++ e ∷ []) ≡ e
last_put log e = fold-append (λ _ next. next) [] log (e ∷ [])

pub rising_more : (log : List Lists) (e : Lists) → IsRising log → EachBegins (last_of log) e → IsRising (log ++ e ∷ [])
rising_more log e all up =
    let P : Lists → Type 0 = λ x. EachBegins x e in
    let before : All P log = λ k d lt. each_trans _ (last_of log) e (all k d lt) up in
    let here : All P (e ∷ []) = λ k d lt. let z : k ≡ 0 = omega arith in subst (λ j. P (Rattle.std.specs.Prelude.slice_index_or (e ∷ []) j d)) (sym z) (each_self e) in
    subst (λ l. All (λ x. EachBegins x l) (log ++ e ∷ [])) (sym (last_put log e)) (All-append P log (e ∷ []) before here)

-- a edition of one entry more
pub one_more : (log more : List Lists) (e : Lists) (n : ℕ) → n ≡ length log → IsRising log → EachBegins (last_of log) e → more ≡ log ++ e ∷ [] → (n + 1 ≡ length more) × IsRising more
one_more log more e n count all up is =
    let P : List Lists → Type 0 = λ l. (n + 1 ≡ length l) × IsRising l in
    subst P (sym is) (omega (arith, count, length-append log (e ∷ [])), rising_more log e all up)

-- by the numbers of their entries one of two editions follows the other
pub either_follows : (p q : Edition) (m n : ℕ) → (m ≤ n → Follows p q) → (n ≤ m → Follows q p) → MatchBool (leb m n) (Follows p q) (Follows q p)
either_follows p q m n f g = ⊎_elim
    (λ (t : (leb m n ≡ true) × (m ≤ n)). subst (λ b. MatchBool b (Follows p q) (Follows q p)) (sym t.0) (f t.1))
    (λ (t : (leb m n ≡ false) × (n < m)). subst (λ b. MatchBool b (Follows p q) (Follows q p)) (sym t.0) (g (omega (arith, t.1))))
    (leb_tells m n)
