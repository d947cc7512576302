-- Keys that need no escapes.
use Rattle.std.proofs.Common.{◌≡◌, ◌∙◌, ◌<◌, ◌≤◌, ℕ, ℤ, pos, negsuc, ◌==◌, ◌&&◌, nat_lt, nat_le, not, true, List, [], ◌∷◌, ◌++◌, codes, IsUtf8, refl, sym, ap, ap₂, arith, lt-ltb, ltb-true, leb-true, append_assoc}
use Rattle.std.proofs.lemmas.Bool.{and_parts, not-true, eqb-false}
use Rattle.std.specs.Fmt.{signed_decimal}
use Rattle.json.specs.Print.{escape, escape_byte}
use Rattle.json.proofs.Printed.Strings.{escape_byte_plain}
use Rattle.json.proofs.Printed.Utf8.{are_ascii, IsUtf8-are_ascii}
use Rattle.absflow_run.specs.RowText.{row_text}
use Rattle.absflow_run.specs.RecordText.{is_plain, are_plain, plain_line}

record IsPlainByte (x : ℕ) : Type 0 where
  quote : x ≡ 34 → ⊥
  backslash : x ≡ 92 → ⊥
  least : 32 ≤ x
  greatest : x < 127

plain_byte : (x : ℕ) → is_plain x ≡ true → IsPlainByte x
plain_byte x h =
    let last = and_parts ((nat_le 32 x && nat_lt x 127) && not (x == 34)) (not (x == 92)) h in
    let third = and_parts (nat_le 32 x && nat_lt x 127) (not (x == 34)) last.0 in
    let range = and_parts (nat_le 32 x) (nat_lt x 127) third.0 in
    record { quote = eqb-false x 34 (not-true _ third.1); backslash = eqb-false x 92 (not-true _ last.1); least = leb-true 32 x range.0; greatest = ltb-true x 127 range.1 }

escape_plain : (s : List ℕ) → are_plain s ≡ true → escape s ≡ s
escape_plain [] h = refl
escape_plain (x ∷ xs) h =
    let each = and_parts (is_plain x) (are_plain xs) h in
    let is = plain_byte x each.0 in
    ap₂ (λ a b. a ++ b) (escape_byte_plain x is.quote is.backslash is.least) (escape_plain xs each.1)

ascii_plain : (s : List ℕ) → are_plain s ≡ true → are_ascii s ≡ true
ascii_plain [] h = refl
ascii_plain (x ∷ xs) h =
    let each = and_parts (is_plain x) (are_plain xs) h in
    let is = plain_byte x each.0 in
    rw (lt-ltb x 128 (omega (arith, is.greatest))) (ascii_plain xs each.1)

pub utf8_plain : (s : List ℕ) → are_plain s ≡ true → IsUtf8 s
utf8_plain s h = IsUtf8-are_ascii s (ascii_plain s h)

abbrev before_value : List ℕ
before_value = 44 ∷ 34 ∷ 118 ∷ 34 ∷ 58 ∷ []

regrouped : (e n : List ℕ) → e ++ 34 ∷ (before_value ++ (n ++ 125 ∷ 10 ∷ [])) ≡ ((e ++ 34 ∷ []) ++ (before_value ++ (n ++ 125 ∷ []))) ++ 10 ∷ []
regrouped e n =
    let last = append_assoc (e ++ 34 ∷ []) (before_value ++ (n ++ 125 ∷ [])) (10 ∷ []) in
    let digits = ap (λ l. (e ++ 34 ∷ []) ++ (before_value ++ l)) (append_assoc n (125 ∷ []) (10 ∷ [])) in
    sym (last ∙ digits ∙ append_assoc e (34 ∷ []) (before_value ++ (n ++ 125 ∷ 10 ∷ [])))

escaped_line : (k : List ℕ) (v : ℤ) → codes "{\"k\":\"" ++ (escape k ++ (codes "\",\"v\":" ++ (signed_decimal v ++ codes "}\n"))) ≡ row_text (record { k = k; v = v }) ++ 10 ∷ []
unfolding escape_byte
escaped_line k (pos n) = ap (λ l. 123 ∷ 34 ∷ 107 ∷ 34 ∷ 58 ∷ 34 ∷ l) (regrouped (escape k) (signed_decimal (pos n)))
escaped_line k (negsuc n) = ap (λ l. 123 ∷ 34 ∷ 107 ∷ 34 ∷ 58 ∷ 34 ∷ l) (regrouped (escape k) (signed_decimal (negsuc n)))

pub line_plain : (k : List ℕ) (v : ℤ) → are_plain k ≡ true → plain_line k v ≡ row_text (record { k = k; v = v }) ++ 10 ∷ []
line_plain k v h = ap (λ e. codes "{\"k\":\"" ++ (e ++ (codes "\",\"v\":" ++ (signed_decimal v ++ codes "}\n")))) (sym (escape_plain k h)) ∙ escaped_line k v
