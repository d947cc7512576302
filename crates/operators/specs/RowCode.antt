-- What is read of a row or of a state is what was written.
use Rattle.std.proofs.Common.{◌≡◌, ℕ, ℤ, zero, suc, List, [], ◌∷◌, ◌++◌, Ok, Err, refl, ap, subst, arith, inl, inr, ◌⊎◌}
use Rattle.std.specs.Int.{w64}
use Rattle.std.specs.Int.RustNames.{FitsSigned}
use Rattle.abs_codec.specs.Reading.{IsBytes, signed_at, text_within, list_at}
use Rattle.abs_codec.specs.Spelling.{bytes_spelling, signed_spelling, list_spelling, IsTextWithin, AreSpelled}
use Rattle.abs_codec.specs.Numbers.{bind_ok, ok_is, wide64}
use Rattle.abs_codec.specs.Laws.{IsCode, signed_code, text_code, pair_code, list_code, same_code, stands_then, never_fails}
use Rattle.abs_codec.specs.declared.fault.CodecFault.{CodecFault}
use Rattle.abs_codec.specs.declared.fault.CodecFault.TheVariants.{Short}
use Rattle.operators.specs.declared.row_state.RowState.{RowState}
use Rattle.operators.specs.declared.row_state.RowState.TheVariants.{Plain, Number, Numbers}
use Rattle.operators.specs.RowSpelling.{row_spelling, RowIsSpelled, row_at, state_spelling, StateIsSpelled, state_at}

i64_code : IsCode (FitsSigned w64) (signed_spelling w64) (signed_at w64)
i64_code = signed_code w64 wide64

pub row_code : IsCode RowIsSpelled row_spelling row_at
row_code = same_code (λ (p : List ℕ × ℤ). record { k = p.0; v = p.1 }) (λ row. (row.k, row.v)) (λ _. refl) (λ _. refl)
    (pair_code (IsTextWithin 1024) bytes_spelling (text_within 1024) (text_code 1024 (omega arith)) (FitsSigned w64) (signed_spelling w64) (signed_at w64) i64_code)

numbers_code : IsCode (AreSpelled (FitsSigned w64)) (list_spelling (signed_spelling w64)) (list_at (signed_at w64))
numbers_code = list_code (FitsSigned w64) (signed_spelling w64) (signed_at w64) i64_code

state_again : (s : RowState) (rest : List ℕ) → StateIsSpelled s → state_at (state_spelling s ++ rest) ≡ Ok (s, rest)
unfolding state_at
state_again Plain rest h = refl
state_again (Number n) rest h = rw (i64_code.again n rest h) refl
state_again (Numbers ns) rest h = rw (numbers_code.again ns rest h) refl

state_spelled : (bytes : List ℕ) (s : RowState) (rest : List ℕ) → IsBytes bytes → state_at bytes ≡ Ok (s, rest) → StateIsSpelled s × (bytes ≡ state_spelling s ++ rest)
unfolding state_at
state_spelled [] s rest fits e = absurd cc
state_spelled (zero ∷ bytes) s rest fits e =
    subst (λ (x : RowState × List ℕ). StateIsSpelled x.0 × (0 ∷ bytes ≡ state_spelling x.0 ++ x.1)) (ok_is (Plain, bytes) (s, rest) e) (tt, refl)
state_spelled (suc zero ∷ bytes) s rest fits e =
    let a = bind_ok (signed_at w64 bytes) (λ n. Ok (Number n.0, n.1)) (s, rest) e in
    let u = i64_code.spelled bytes a.0.0 a.0.1 (λ i. fits (suc i)) a.1 in
    subst (λ (x : RowState × List ℕ). StateIsSpelled x.0 × (1 ∷ bytes ≡ state_spelling x.0 ++ x.1)) (ok_is (Number a.0.0, a.0.1) (s, rest) a.2) (u.0, ap (λ (w : List ℕ). 1 ∷ w) u.1)
state_spelled (suc (suc zero) ∷ bytes) s rest fits e =
    let a = bind_ok (list_at (signed_at w64) bytes) (λ ns. Ok (Numbers ns.0, ns.1)) (s, rest) e in
    let u = numbers_code.spelled bytes a.0.0 a.0.1 (λ i. fits (suc i)) a.1 in
    subst (λ (x : RowState × List ℕ). StateIsSpelled x.0 × (2 ∷ bytes ≡ state_spelling x.0 ++ x.1)) (ok_is (Numbers a.0.0, a.0.1) (s, rest) a.2) (u.0, ap (λ (w : List ℕ). 2 ∷ w) u.1)
state_spelled (suc (suc (suc tag)) ∷ bytes) s rest fits e = absurd cc

state_stands : (bytes more : List ℕ) (f : CodecFault) → IsBytes bytes → state_at bytes ≡ Err f → (f ≡ Short) ⊎ (state_at (bytes ++ more) ≡ Err f)
unfolding state_at
state_stands [] more f fits h = inl cc
state_stands (zero ∷ bytes) more f fits h = absurd cc
state_stands (suc zero ∷ bytes) more f fits h = stands_then i64_code (λ n. Ok (Number n.0, n.1)) bytes more f (λ i. fits (suc i)) (λ x e fits1 h1. absurd (never_fails (Number x.0, x.1) f h1)) h
state_stands (suc (suc zero) ∷ bytes) more f fits h = stands_then numbers_code (λ ns. Ok (Numbers ns.0, ns.1)) bytes more f (λ i. fits (suc i)) (λ x e fits1 h1. absurd (never_fails (Numbers x.0, x.1) f h1)) h
state_stands (suc (suc (suc tag)) ∷ bytes) more f fits h = inr h

pub state_code : IsCode StateIsSpelled state_spelling state_at
state_code = record { again = state_again; spelled = state_spelled; stands = state_stands }
