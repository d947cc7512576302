-- Steps that are made one after another.
use Rattle.std.proofs.Common.{◌≡◌, ◌+◌, Some, slice_get, take, drop, ℕ, zero, suc, List, [], ◌∷◌, ◌++◌, refl, sym, ap, ◌∙◌, subst, append-nil, arith}
use Rattle.std.proofs.lemmas.Option.{none-some, same_Some}
use Rattle.engine_model.specs.Restart.{InTurn, UpTo}

pub take_one_more : {A : Type 0} (xs : List A) (i : ℕ) (x : A) → slice_get xs i ≡ Some x → take (i + 1) xs ≡ take i xs ++ x ∷ []
take_one_more xs i x e = ap (λ n. take n xs) plus ∙ by xs i e
  where
    plus : i + 1 ≡ suc i
    plus = omega arith

    by : {A : Type 0} {x : A} (xs : List A) (i : ℕ) → slice_get xs i ≡ Some x → take (suc i) xs ≡ take i xs ++ x ∷ []
    by {x = x} [] i e = absurd (none-some x e)
    by {x = x} (y ∷ ys) zero e = ap (λ z. z ∷ []) (same_Some y x e)
    by (y ∷ ys) (suc i) e = ap (λ zs. y ∷ zs) (by ys i e)

-- what is left begins with the next one
pub next_of_rest : {A : Type 0} (xs : List A) (i : ℕ) (x : A) → slice_get xs i ≡ Some x → drop i xs ≡ x ∷ drop (i + 1) xs
next_of_rest xs i x e = by xs i e ∙ ap (λ n. x ∷ drop n xs) plus
  where
    plus : suc i ≡ i + 1
    plus = omega arith

    by : {A : Type 0} {x : A} (xs : List A) (i : ℕ) → slice_get xs i ≡ Some x → drop i xs ≡ x ∷ drop (suc i) xs
    by {x = x} [] i e = absurd (none-some x e)
    by {x = x} (y ∷ ys) zero e = ap (λ z. z ∷ ys) (same_Some y x e)
    by (y ∷ ys) (suc i) e = by ys i e

pub take_and_drop : {A : Type 0} (i : ℕ) (xs : List A) → xs ≡ take i xs ++ drop i xs
take_and_drop zero xs = refl
take_and_drop (suc i) [] = refl
take_and_drop (suc i) (x ∷ xs) = ap (λ ys. x ∷ ys) (take_and_drop i xs)

module _ {L A : Type 0} (Step : A → L → L → Type 0) where
  pub turn_more : (xs : List A) (x : A) (old middle new : L) → InTurn Step xs old middle → Step x middle new → InTurn Step (xs ++ x ∷ []) old new
  turn_more [] x old middle new done step = (new, subst (λ m. Step x m new) done step, refl)
  turn_more (y ∷ ys) x old middle new done step = (done.0, done.1, turn_more ys x done.0 middle new done.2 step)

  -- the loop has made so many turns, and makes one more
  pub turn_next : (xs : List A) (i : ℕ) (x : A) (old middle new : L) → slice_get xs i ≡ Some x → InTurn Step (take i xs) old middle → Step x middle new → InTurn Step (take (i + 1) xs) old new
  turn_next xs i x old middle new at done step = subst (λ ys. InTurn Step ys old new) (sym (take_one_more xs i x at)) (turn_more (take i xs) x old middle new done step)

  pub up_to_here : (xs : List A) (i : ℕ) (old new : L) → InTurn Step (take i xs) old new → UpTo Step xs old new
  up_to_here xs i old new done = record { done = take i xs; rest = drop i xs; are = take_and_drop i xs; turns = done }

  -- the next one was done too, or it was not
  pub up_to_next : (xs : List A) (i : ℕ) (x : A) (old middle new : L) → slice_get xs i ≡ Some x → InTurn Step (take i xs) old middle → Step x middle new → UpTo Step xs old new
  up_to_next xs i x old middle new at done step = up_to_here xs (i + 1) old new (turn_next xs i x old middle new at done step)

  pub up_to_end : (xs : List A) (old new : L) → InTurn Step xs old new → UpTo Step xs old new
  up_to_end xs old new done = record { done = xs; rest = []; are = sym (append-nil xs); turns = done }

  pub up_to_none : (xs : List A) (old : L) → UpTo Step xs old old
  up_to_none xs old = record { done = []; rest = xs; are = refl; turns = refl }
