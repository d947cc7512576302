-- How many have yet to acknowledge, and whether all have.
use Rattle.std.proofs.Common.{◌≡◌, ◌<◌, ◌+◌, zero, suc, List, [], ◌∷◌, Bool, true, false, not, cond, IsTrue, arith, length, refl}
use Rattle.std.proofs.lemmas.Bool.{false≢true}
use Rattle.std.proofs.lemmas.List.Sums.{sum_by-cons}
use Rattle.std.specs.List.{All, count_by, list_all}

-- one more, acknowledged or not
count-cons : (acked : Bool) (xs : List Bool) → count_by not (acked ∷ xs) ≡ cond (not acked) 1 0 + count_by not xs
count-cons acked xs = sum_by-cons (λ x. cond (not x) 1 0) acked xs

pub list_all-some_missing : (xs : List Bool) → 0 < count_by not xs → list_all (λ acked. acked) xs ≡ false
list_all-some_missing [] some = absurd (omega arith)
list_all-some_missing (true ∷ xs) some = list_all-some_missing xs (omega (arith, count-cons true xs))
list_all-some_missing (false ∷ xs) some = refl

pub list_all-none_missing : (xs : List Bool) → count_by not xs ≡ 0 → list_all (λ acked. acked) xs ≡ true
list_all-none_missing [] none = refl
list_all-none_missing (true ∷ xs) none = list_all-none_missing xs (omega (arith, count-cons true xs))
list_all-none_missing (false ∷ xs) none = absurd (omega (arith, count-cons false xs))

pub All-none_missing : (xs : List Bool) → count_by not xs ≡ 0 → All IsTrue xs
All-none_missing [] none k d within = let h : k < 0 = within in absurd (omega (arith, h))
All-none_missing (true ∷ xs) none zero d within = refl
All-none_missing (true ∷ xs) none (suc k) d within =
    let h : suc k < suc (length xs) = within in
    All-none_missing xs (omega (arith, count-cons true xs)) k d (omega (arith, h))
All-none_missing (false ∷ xs) none k d within = absurd (omega (arith, count-cons false xs))

pub none_missing-All : (xs : List Bool) → All IsTrue xs → count_by not xs ≡ 0
none_missing-All [] all = refl
none_missing-All (true ∷ xs) all =
    let rest : count_by not xs ≡ 0 = none_missing-All xs (λ k d within. all (suc k) d (let h : k < length xs = within in omega (arith, h))) in
    omega (arith, rest, count-cons true xs)
none_missing-All (false ∷ xs) all = absurd (false≢true (all 0 true (omega arith)))

pub ruleset count_rules = (list_all-some_missing, list_all-none_missing)
