-- A number read digit by digit.
use Rattle.std.proofs.Common.{◌≡◌, ◌∙◌, ◌<◌, ◌≤◌, ◌^◌, ◌⊎◌, inl, inr, ℕ, ◌+◌, ◌-◌, ◌*◌, ◌/◌, ◌%◌, List, [], ◌∷◌, ◌++◌, length, take, get_or, sym, ap, ap₂, arith, take-suc, add-one, eq-zero-or-pos, subst, IsUtf8, FitsSigned, ℤ, pos, negsuc}
use Rattle.std.specs.Fmt.{decimal, signed_decimal}
use Rattle.std.specs.Int.{w64}
use Rattle.std.proofs.lemmas.Str.{IsUtf8-from_ascii}
use Rattle.std.proofs.lemmas.Fmt.{decimal_digit, decimal_step, IsAscii-signed}

pub next_digit : (text : List ℕ) (i n : ℕ) → i < length text → 48 ≤ get_or text i 0 → get_or text i 0 ≤ 57 → n < 10 ^ 17 → (i ≡ 0 → n ≡ 0) → (0 < i → take i text ≡ decimal n)
    → (0 < i → 0 < n) → take (i + 1) text ≡ decimal (10 * n + (get_or text i 0 - 48))
next_digit text i n more low high small first so_far some = by (eq-zero-or-pos i)
  where
    byte : ℕ
    byte = get_or text i 0

    value : ℕ
    value = 10 * n + (byte - 48)

    longer : take (i + 1) text ≡ take i text ++ byte ∷ []
    longer = ap (λ k. take k text) (add-one i) ∙ take-suc text i 0 more

    by : (i ≡ 0) ⊎ (0 < i) → take (i + 1) text ≡ decimal value
    by (inl none) =
        let zero_so_far : n ≡ 0 = first none in
        let digit : 48 + value ≡ byte = omega (arith, zero_so_far, low) in
        longer ∙ ap (λ k. take k text ++ byte ∷ []) none ∙ ap (λ b. b ∷ []) (sym digit) ∙ sym (decimal_digit value (omega (arith, zero_so_far, low, high)))
    by (inr front) =
        let least : 0 < n = some front in
        let quotient : value / 10 ≡ n = omega (arith, low, high) in
        let digit : 48 + value % 10 ≡ byte = omega (arith, low, high) in
        longer ∙ ap₂ (λ ds b. ds ++ b ∷ []) (so_far front ∙ ap decimal (sym quotient)) (sym digit) ∙ sym (decimal_step value (omega (arith, least)) (omega (arith, small, low, high)))

pub utf8_printed : (text : List ℕ) (z : ℤ) → FitsSigned w64 z → text ≡ signed_decimal z → IsUtf8 text
utf8_printed text (pos n) fits is = subst IsUtf8 (sym is) (IsUtf8-from_ascii _ (IsAscii-signed (pos n) fits.sfits))
utf8_printed text (negsuc n) fits is = subst IsUtf8 (sym is) (IsUtf8-from_ascii _ (IsAscii-signed (negsuc n) (omega (arith, fits.sfits))))
