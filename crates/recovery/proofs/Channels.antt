-- The logs' channels beside the marked inputs of a task.
use Rattle.std.proofs.Common.{◌≡◌, ◌↔◌, ◌+◌, ◌<◌, ◌≤◌, IsTrue, All, ℕ, zero, suc, Bool, true, false, cond, Some, slice_get, length, take, drop, map, filter, List, [], ◌∷◌, ◌++◌, refl, sym, ap, ap₂, ◌∙◌, append-nil, arith}
use Rattle.std.specs.Bool.{MatchBool}
use Rattle.std.specs.List.{AllWithin, HoldsAt}
use Rattle.std.proofs.lemmas.Bool.{false≢true}
use Rattle.std.proofs.lemmas.Iterator.Search.{true_from_All}
use Rattle.std.proofs.lemmas.List.Elements.{filter-append, All-from_all_within}
use Rattle.task_part.specs.Spelling.{Logs}
use Rattle.engine_model.proofs.Turns.{take_one_more, next_of_rest, take_and_drop}

-- each log has a channel
pub as_many : {R : Type 0} (logs : Logs R) → length (map (λ log. log.0) logs) ≡ length logs
as_many [] = refl
as_many (log ∷ logs) = let rest = as_many logs in omega (arith, rest)

behind : {A : Type 0} (xs : List A) (x : A) (ys : List A) → slice_get (xs ++ x ∷ ys) (length xs) ≡ Some x
behind [] x ys = refl
behind (y ∷ xs) x ys = behind xs x ys

long_enough : {A : Type 0} (n : ℕ) (xs : List A) → n ≤ length xs → length (take n xs) ≡ n
long_enough zero xs within = refl
long_enough (suc n) [] within = absurd (omega (arith, within))
long_enough (suc n) (x ∷ xs) within = let rest = long_enough n xs (omega (arith, within)) in omega (arith, rest)

module _ (is_marked : ℕ → Bool) (channels inputs : List ℕ) (i met : ℕ) (so_far : filter is_marked (take i inputs) ≡ take met channels) where
  module _ (number : ℕ) (at : slice_get inputs i ≡ Some number) where
    one_more : filter is_marked (take (i + 1) inputs) ≡ take met channels ++ filter is_marked (number ∷ [])
    one_more = ap (filter is_marked) (take_one_more inputs i number at) ∙ filter-append is_marked (take i inputs) (number ∷ []) ∙ ap (λ xs. xs ++ filter is_marked (number ∷ [])) so_far

    -- one more marked input has a log
    pub met_marked : is_marked number ≡ true → slice_get channels met ≡ Some number → filter is_marked (take (i + 1) inputs) ≡ take (met + 1) channels
    met_marked marked there = one_more ∙ ap (λ xs. take met channels ++ xs) (ap (λ b. cond b (number ∷ []) []) marked) ∙ sym (take_one_more channels met number there)

    -- an input that is not marked has none
    pub met_other : is_marked number ≡ false → filter is_marked (take (i + 1) inputs) ≡ take met channels
    met_other other = one_more ∙ ap (λ xs. take met channels ++ xs) (ap (λ b. cond b (number ∷ []) []) other) ∙ append-nil (take met channels)

    -- a marked input has none, so the logs are not those of the marked inputs
    pub met_stops : met ≤ length channels → is_marked number ≡ true → (slice_get channels met ≡ Some number → ⊥) → channels ≡ filter is_marked inputs → ⊥
    met_stops within marked none are =
        let rest = filter is_marked (drop (i + 1) inputs) in
        let whole : filter is_marked inputs ≡ take met channels ++ number ∷ rest =
        ap (filter is_marked) (take_and_drop i inputs) ∙ filter-append is_marked (take i inputs) (drop i inputs)
        ∙ ap₂ (λ a b. a ++ b) so_far (ap (filter is_marked) (next_of_rest inputs i number at) ∙ ap (λ b. cond b (number ∷ rest) rest) marked) in
        none (ap (λ xs. slice_get xs met) (are ∙ whole) ∙ ap (slice_get (take met channels ++ number ∷ rest)) (sym (long_enough met channels within)) ∙ behind (take met channels) number rest)

take_whole : {A : Type 0} (n : ℕ) (xs : List A) → n ≡ length xs → take n xs ≡ xs
take_whole n xs long = ap (λ m. take m xs) long ∙ by xs
  where
    by : {A : Type 0} (xs : List A) → take (length xs) xs ≡ xs
    by [] = refl
    by (x ∷ xs) = ap (λ ys. x ∷ ys) (by xs)

-- All inputs are met: the logs are those of the marked ones where no log is left, and only there.
module _ (is_marked : ℕ → Bool) (channels inputs : List ℕ) (met : ℕ) (so_far : filter is_marked (take (length inputs) inputs) ≡ take met channels) where
  met_all : filter is_marked inputs ≡ take met channels
  met_all = ap (filter is_marked) (sym (take_whole (length inputs) inputs refl)) ∙ so_far

  pub none_left : met ≡ length channels → channels ≡ filter is_marked inputs
  none_left long = sym (take_whole met channels long) ∙ sym met_all

  pub left_none : met ≤ length channels → channels ≡ filter is_marked inputs → met ≡ length channels
  left_none within are = let long = ap length (are ∙ met_all) in let so = long_enough met channels within in omega (arith, long, so)

-- a test of each told whether all have P
pub tells_all : {X : Type 0} (P : X → Type 0) (r : Bool) (xs : List X) → MatchBool r (AllWithin P xs 0 (length xs)) ((k : ℕ) × (k < length xs) × HoldsAt (λ x. P x → ⊥) xs k) → IsTrue r ↔ All P xs
tells_all P true xs met = (λ e. All-from_all_within P xs met, λ all. refl)
tells_all P false xs met = (λ e. absurd (false≢true e), λ all. true_from_All P (λ x. P x → ⊥) false xs (λ x has not. not has) met all)
