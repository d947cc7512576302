-- The numbers of a subtask's transactions that are neither committed nor aborted.
use Rattle.std.proofs.Common.{◌≡◌, ◌≤◌, ◌+◌, ◌-◌, ◌==◌, ◌&&◌, ℕ, zero, suc, Bool, true, false, cond, List, [], ◌∷◌, ◌++◌, length, map, slice_get, slice_set, Option, Some, None, refl, sym, ap, ◌∙◌, subst, arith}
use Rattle.std.specs.List.{cons_option, filter_map, enumerate_from}
use Rattle.std.specs.BTreeMap.{is_at}
use Rattle.std.specs.BTreeSet.{insert_key}
use Rattle.std.specs.Cmp.{nat_cmp_is}
use Rattle.std.specs.Ordering.{is_eq, match_ordering, nat_cmp}
use Rattle.std.specs.declared.cmp.Ordering.TheVariants.{Equal, Greater}
use Rattle.std.specs.Set.{remove_key}
use Rattle.commit_sink.specs.declared.transactions.Progress.{Progress}
use Rattle.commit_sink.specs.declared.transactions.Progress.TheVariants.{Open, PreCommitted, Committed, Aborted}
use Rattle.commit_sink.specs.Ledger.{Transaction, transaction_in, unsettled_as, unsettled_one}
use Rattle.commit_sink.specs.Shares.{has_unsettled, is_unsettled_of, unsettled_in}
use Rattle.commit_sink.proofs.Replaced.{at_place, in_range}

-- in rising order, where the first transaction has this number
abbrev pub numbers_from : ℕ → ℕ → List Transaction → List ℕ
numbers_from s n [] = []
numbers_from s n (t ∷ ts) = cond (is_unsettled_of s t) (n ∷ numbers_from s (n + 1) ts) (numbers_from s (n + 1) ts)

abbrev pub told_from : ℕ → ℕ → List Transaction → List (ℕ × Option ℕ)
told_from s n ts = filter_map (unsettled_one s) (enumerate_from n ts)

number_one : (n : ℕ) (b : Bool) (p : Progress) (rest : List (ℕ × Option ℕ)) (numbers : List ℕ) → map (λ e. e.0) rest ≡ numbers
    → map (λ e. e.0) (cons_option (cond b (unsettled_as n p) None) rest) ≡ cond (b && has_unsettled p) (n ∷ numbers) numbers
number_one n false p rest numbers is = is
number_one n true Open rest numbers is = ap (λ ns. n ∷ ns) is
number_one n true (PreCommitted c) rest numbers is = ap (λ ns. n ∷ ns) is
number_one n true Committed rest numbers is = is
number_one n true Aborted rest numbers is = is

-- they are the numbers of what is told
pub numbers-told : (s n : ℕ) (ts : List Transaction) → map (λ e. e.0) (told_from s n ts) ≡ numbers_from s n ts
numbers-told s n [] = refl
numbers-told s n (t ∷ ts) = number_one n (t.subtask == s) t.progress (told_from s (n + 1) ts) (numbers_from s (n + 1) ts) (numbers-told s (n + 1) ts)

tell_one : (n : ℕ) (b : Bool) (p : Progress) (f : ℕ → Option (ℕ × Option ℕ)) (rest : List (ℕ × Option ℕ)) (numbers : List ℕ) → f n ≡ unsettled_as n p → filter_map f numbers ≡ rest
    → filter_map f (cond (b && has_unsettled p) (n ∷ numbers) numbers) ≡ cons_option (cond b (unsettled_as n p) None) rest
tell_one n false p f rest numbers at is = is
tell_one n true Open f rest numbers at is = ap (λ o. cons_option o (filter_map f numbers)) at ∙ ap (λ es. (n, None) ∷ es) is
tell_one n true (PreCommitted c) f rest numbers at is = ap (λ o. cons_option o (filter_map f numbers)) at ∙ ap (λ es. (n, Some c) ∷ es) is
tell_one n true Committed f rest numbers at is = is
tell_one n true Aborted f rest numbers at is = is

abbrev told_one : ℕ → Option Transaction → Option (ℕ × Option ℕ)
told_one n o = elim o [ None ↦ None | Some t ↦ unsettled_as n t.progress ]

-- and what is told is what their transactions are
told-numbers_from : (s n : ℕ) (all ts : List Transaction) → ((i : ℕ) (t : Transaction) → slice_get ts i ≡ Some t → transaction_in all (n + i) ≡ Some t)
    → filter_map (unsettled_in all) (numbers_from s n ts) ≡ told_from s n ts
told-numbers_from s n all [] at = refl
told-numbers_from s n all (t ∷ ts) at =
    let here : transaction_in all n ≡ Some t = subst (λ k. transaction_in all k ≡ Some t) (let same : n + 0 ≡ n = omega arith in same) (at 0 t refl) in
    tell_one n (t.subtask == s) t.progress (unsettled_in all) (told_from s (n + 1) ts) (numbers_from s (n + 1) ts) (ap (told_one n) here)
    (told-numbers_from s (n + 1) all ts (λ i u is. subst (λ k. transaction_in all k ≡ Some u) (let same : n + suc i ≡ n + 1 + i = omega arith in same) (at (suc i) u is)))

pub told-numbers : (s : ℕ) (ts : List Transaction) (numbers : List ℕ) → numbers ≡ map (λ e. e.0) (told_from s 1 ts) → filter_map (unsettled_in ts) numbers ≡ told_from s 1 ts
told-numbers s ts numbers is =
    ap (filter_map (unsettled_in ts)) (is ∙ numbers-told s 1 ts)
    ∙ told-numbers_from s 1 ts ts (λ i t at. at_place ts (1 + i) t (omega arith) (subst (λ k. slice_get ts k ≡ Some t) (let same : i ≡ 1 + i - 1 = omega arith in same) at))

-- ---- a transaction is begun

more_one : (b : Bool) (n : ℕ) (xs ys last : List ℕ) → xs ≡ ys ++ last → cond b (n ∷ xs) xs ≡ cond b (n ∷ ys) ys ++ last
more_one true n xs ys last is = ap (λ zs. n ∷ zs) is
more_one false n xs ys last is = is

numbers_from-more : (s n : ℕ) (ts : List Transaction) (t : Transaction) → numbers_from s n (ts ++ t ∷ []) ≡ numbers_from s n ts ++ cond (is_unsettled_of s t) ((n + length ts) ∷ []) []
numbers_from-more s n [] t = ap (λ k. cond (is_unsettled_of s t) (k ∷ []) []) (let same : n ≡ n + 0 = omega arith in same)
numbers_from-more s n (x ∷ ts) t =
    more_one (is_unsettled_of s x) n (numbers_from s (n + 1) (ts ++ t ∷ [])) (numbers_from s (n + 1) ts) (cond (is_unsettled_of s t) ((n + length (x ∷ ts)) ∷ []) [])
    (numbers_from-more s (n + 1) ts t ∙ ap (λ k. numbers_from s (n + 1) ts ++ cond (is_unsettled_of s t) (k ∷ []) []) (let same : n + 1 + length ts ≡ n + suc (length ts) = omega arith in same))

greatest_one : (b : Bool) (n m : ℕ) (xs : List ℕ) → Greater ≡ nat_cmp m n → insert_key nat_cmp xs m ≡ xs ++ m ∷ [] → insert_key nat_cmp (cond b (n ∷ xs) xs) m ≡ cond b (n ∷ xs) xs ++ m ∷ []
greatest_one true n m xs above is = ap (λ o. match_ordering o (m ∷ n ∷ xs) (n ∷ xs) (n ∷ insert_key nat_cmp xs m)) (sym above) ∙ ap (λ zs. n ∷ zs) is
greatest_one false n m xs above is = is

-- a greater number comes last
insert-greatest : (s n m : ℕ) (ts : List Transaction) → n + length ts ≤ m → insert_key nat_cmp (numbers_from s n ts) m ≡ numbers_from s n ts ++ m ∷ []
insert-greatest s n m [] above = refl
insert-greatest s n m (t ∷ ts) above =
    greatest_one (is_unsettled_of s t) n m (numbers_from s (n + 1) ts) (nat_cmp_is m n Greater (omega arith)) (insert-greatest s (n + 1) m ts (omega arith))

pub numbers-begun : (s : ℕ) (ts : List Transaction) (t : Transaction) (numbers : List ℕ) → is_unsettled_of s t ≡ true → numbers ≡ map (λ e. e.0) (told_from s 1 ts)
    → insert_key nat_cmp numbers (length ts + 1) ≡ map (λ e. e.0) (told_from s 1 (ts ++ t ∷ []))
numbers-begun s ts t numbers unsettled is =
    let last : 1 + length ts ≡ length ts + 1 = omega arith in
    ap (λ ns. insert_key nat_cmp ns (length ts + 1)) (is ∙ numbers-told s 1 ts)
    ∙ insert-greatest s 1 (length ts + 1) ts (omega arith)
    ∙ ap (λ k. numbers_from s 1 ts ++ k ∷ []) (sym last)
    ∙ ap (λ b. numbers_from s 1 ts ++ cond b ((1 + length ts) ∷ []) []) (sym unsettled)
    ∙ sym (numbers_from-more s 1 ts t)
    ∙ sym (numbers-told s 1 (ts ++ t ∷ []))

append-none : (xs : List ℕ) → xs ≡ xs ++ []
append-none [] = refl
append-none (x ∷ xs) = ap (λ ys. x ∷ ys) (append-none xs)

pub numbers-begun_other : (s : ℕ) (ts : List Transaction) (t : Transaction) (numbers : List ℕ) → is_unsettled_of s t ≡ false → numbers ≡ map (λ e. e.0) (told_from s 1 ts)
    → numbers ≡ map (λ e. e.0) (told_from s 1 (ts ++ t ∷ []))
numbers-begun_other s ts t numbers settled is =
    is ∙ numbers-told s 1 ts
    ∙ append-none (numbers_from s 1 ts)
    ∙ ap (λ b. numbers_from s 1 ts ++ cond b ((1 + length ts) ∷ []) []) (sym settled)
    ∙ sym (numbers_from-more s 1 ts t)
    ∙ sym (numbers-told s 1 (ts ++ t ∷ []))

-- ---- a transaction is replaced

numbers_from-same : (s n i : ℕ) (ts : List Transaction) (t u : Transaction) → slice_get ts i ≡ Some t → is_unsettled_of s u ≡ is_unsettled_of s t → numbers_from s n (slice_set ts i u) ≡ numbers_from s n ts
numbers_from-same s n i [] t u at same = refl
numbers_from-same s n zero (x ∷ ts) t u at same =
    let head : is_unsettled_of s x ≡ is_unsettled_of s t = unsettled_some (cc at) in
    ap (λ b. cond b (n ∷ numbers_from s (n + 1) ts) (numbers_from s (n + 1) ts)) (same ∙ sym head)
  where
    unsettled_some : x ≡ t → is_unsettled_of s x ≡ is_unsettled_of s t
    unsettled_some e = ap (is_unsettled_of s) e
numbers_from-same s n (suc i) (x ∷ ts) t u at same =
    ap (λ ns. cond (is_unsettled_of s x) (n ∷ ns) ns) (numbers_from-same s (n + 1) i ts t u at same)

gone_one : (b : Bool) (n : ℕ) (test : ℕ → Bool) (xs ys : List ℕ) → test n ≡ false → xs ≡ remove_key test ys → cond b (n ∷ xs) xs ≡ remove_key test (cond b (n ∷ ys) ys)
gone_one true n test xs ys other is = ap (λ zs. n ∷ zs) is ∙ ap (λ b. cond b ys (n ∷ remove_key test ys)) (sym other)
gone_one false n test xs ys other is = is

equal_at : (n : ℕ) → is_at (nat_cmp n) n ≡ true
equal_at n = ap is_eq (sym (nat_cmp_is n n Equal refl))

numbers_from-gone : (s n i : ℕ) (ts : List Transaction) (t u : Transaction) → slice_get ts i ≡ Some t → is_unsettled_of s t ≡ true → is_unsettled_of s u ≡ false
    → numbers_from s n (slice_set ts i u) ≡ remove_key (is_at (nat_cmp (n + i))) (numbers_from s n ts)
numbers_from-gone s n i [] t u at was now = absurd (cc at)
numbers_from-gone s n zero (x ∷ ts) t u at was now =
    let head : is_unsettled_of s x ≡ true = unsettled_some (cc at) ∙ was in
    let here : is_at (nat_cmp (n + 0)) n ≡ true = subst (λ k. is_at (nat_cmp k) n ≡ true) (let same : n ≡ n + 0 = omega arith in same) (equal_at n) in
    ap (λ b. cond b (n ∷ numbers_from s (n + 1) ts) (numbers_from s (n + 1) ts)) now
    ∙ ap (λ b. cond b (numbers_from s (n + 1) ts) (n ∷ remove_key (is_at (nat_cmp (n + 0))) (numbers_from s (n + 1) ts))) (sym here)
    ∙ ap (λ b. remove_key (is_at (nat_cmp (n + 0))) (cond b (n ∷ numbers_from s (n + 1) ts) (numbers_from s (n + 1) ts))) (sym head)
  where
    unsettled_some : x ≡ t → is_unsettled_of s x ≡ is_unsettled_of s t
    unsettled_some e = ap (is_unsettled_of s) e
numbers_from-gone s n (suc i) (x ∷ ts) t u at was now =
    gone_one (is_unsettled_of s x) n (is_at (nat_cmp (n + suc i))) (numbers_from s (n + 1) (slice_set ts i u)) (numbers_from s (n + 1) ts)
    (ap is_eq (sym (nat_cmp_is (n + suc i) n Greater (omega arith))))
    (numbers_from-gone s (n + 1) i ts t u at was now ∙ ap (λ k. remove_key (is_at (nat_cmp k)) (numbers_from s (n + 1) ts)) (let same : n + 1 + i ≡ n + suc i = omega arith in same))

-- one that stays as unsettled, or as settled, as it was
pub numbers-same : (s n : ℕ) (ts : List Transaction) (t u : Transaction) (numbers : List ℕ) → transaction_in ts n ≡ Some t → is_unsettled_of s u ≡ is_unsettled_of s t
    → numbers ≡ map (λ e. e.0) (told_from s 1 ts) → numbers ≡ map (λ e. e.0) (told_from s 1 (slice_set ts (n - 1) u))
numbers-same s n ts t u numbers at same is =
    is ∙ numbers-told s 1 ts ∙ sym (numbers_from-same s 1 (n - 1) ts t u (in_range ts n t at).1 same) ∙ sym (numbers-told s 1 (slice_set ts (n - 1) u))

-- one that is settled now
pub numbers-gone : (s n : ℕ) (ts : List Transaction) (t u : Transaction) (numbers : List ℕ) → transaction_in ts n ≡ Some t → is_unsettled_of s t ≡ true → is_unsettled_of s u ≡ false
    → numbers ≡ map (λ e. e.0) (told_from s 1 ts) → remove_key (is_at (nat_cmp n)) numbers ≡ map (λ e. e.0) (told_from s 1 (slice_set ts (n - 1) u))
numbers-gone s n ts t u numbers at was now is =
    let r = in_range ts n t at in
    let positive = r.0 in
    let number : 1 + (n - 1) ≡ n = omega (arith, positive) in
    ap (remove_key (is_at (nat_cmp n))) (is ∙ numbers-told s 1 ts)
    ∙ ap (λ k. remove_key (is_at (nat_cmp k)) (numbers_from s 1 ts)) (sym number)
    ∙ sym (numbers_from-gone s 1 (n - 1) ts t u r.1 was now)
    ∙ sym (numbers-told s 1 (slice_set ts (n - 1) u))
