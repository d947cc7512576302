-- Which of a sink's pending transactions is of the checkpoint that is pending: none but the last.
use Rattle.std.proofs.Common.{◌≡◌, inl, inr, All, Option, Some, slice_get, length, drop, ℕ, suc, List, [], ◌∷◌, ◌++◌, refl, sym, subst, ◌∙◌, length-append, arith}
use Rattle.std.proofs.lemmas.Bool.Decides.{eqb_tells}
use Rattle.std.proofs.lemmas.Option.{none-some, slice_get_within, get_or_from_slice_get}
use Rattle.commit_sink.specs.declared.sink.Pending.{Pending}
use Rattle.engine_model.specs.Keeps.{NoneAfter}
use Rattle.engine_model.proofs.Ledger.Lists.{get_put_other}

-- what holds of all, at a place
pub all_at : {A : Type 0} (P : A → Type 0) (xs : List A) (i : ℕ) (x : A) → All P xs → slice_get xs i ≡ Some x → P x
all_at P xs i x all here = subst P (get_or_from_slice_get xs i x x here) (all i x (slice_get_within xs i x here))

-- a new one comes last
pub none_after_push : (checkpoint : Option ℕ) (xs : List Pending) (last : Pending) → ((i : ℕ) (p : Pending) → slice_get xs i ≡ Some p → checkpoint ≡ Some p.checkpoint → ⊥) → NoneAfter checkpoint (xs ++ last ∷ [])
none_after_push checkpoint xs last before i p here e =
    elim (eqb_tells i (length xs)) [
      | inl same ↦ let end = same.1 in omega (arith, end, length-append xs (last ∷ []))
      | inr apart ↦ absurd (before i p (sym (get_put_other xs last i apart.1) ∙ here) e)
    ]

-- the oldest goes
pub none_after_drop : (checkpoint : Option ℕ) (xs : List Pending) → NoneAfter checkpoint xs → NoneAfter checkpoint (drop 1 xs)
none_after_drop checkpoint [] last i p here e = absurd (none-some p here)
none_after_drop checkpoint (x ∷ xs) last i p here e = let end = last (suc i) p here e in omega (arith, end)

-- if the oldest is of it, there is no other
pub only_one : (checkpoint : Option ℕ) (p : Pending) (rest : List Pending) → NoneAfter checkpoint (p ∷ rest) → checkpoint ≡ Some p.checkpoint → rest ≡ []
only_one checkpoint p [] last e = refl
only_one checkpoint p (q ∷ rest) last e = let end = last 0 p refl e in absurd (omega (arith, end))
