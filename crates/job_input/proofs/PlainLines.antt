-- The row of a line in the form that rows are printed in.
use Rattle.std.proofs.Common.{All, nat_le, option_and_then, ◌&&◌, ◌≡◌, ◌∙◌, ◌⊎◌, inl, inr, ℕ, ℤ, pos, negsuc, ◌^◌, ◌==◌, ◌||◌, List, [], ◌∷◌, ◌++◌, true, not, codes, Option, Some, IsUtf8, FitsSigned, refl, sym, ap, ap₂, arith, eqb-true, lt-ltb, leb-true}
use Rattle.std.proofs.lemmas.Bool.{and_parts, or_cases, not-true, eqb-false}
use Rattle.std.proofs.lemmas.Str.{IsUtf8-append, is_utf8-from_IsUtf8}
use Rattle.std.specs.Fmt.{signed_decimal}
use Rattle.std.specs.Int.{w64}
use Rattle.std.specs.List.{AllByRecursion}
use Rattle.std.proofs.lemmas.List.Elements.{recursion_from_All}
use Rattle.json.specs.Token.{Token, begin_object, end_object, key, string, number}
use Rattle.json.specs.Text.{content, plain}
use Rattle.json.specs.Lex.{token, comma, colon, string_token, lex, between, in_string, punctuate, fresh, tokens}
use Rattle.json.specs.Json as json
use Rattle.json.specs.Print.{escape, IsNumber}
use Rattle.json.proofs.Printed.Decimals.{IsNumber-signed_decimal}
use Rattle.json.proofs.Printed.Numbers.{lex-number}
use Rattle.json.proofs.Printed.Strings.{escape_byte_plain, content-escape, lex-escape}
use Rattle.json.proofs.Printed.Utf8.{are_ascii, IsUtf8-are_ascii}
use Rattle.json_members.specs.Json.{json_of}
use Rattle.script_file.specs.declared.fault.ItemFault.TheVariants.{Bad}
use Rattle.script_file.specs.Faults.{◌>>=◌, or_fault}
use Rattle.script_file.specs.Rows.{row_of, row_with}
use Rattle.serde_json.specs.Data as values
use Rattle.serde_json.specs.Data.{Data, Num}
use Rattle.serde_json.specs.Find.{of_integer, as_i64}
use Rattle.serde_json.specs.Read.{number_of, of_json, max_depth, read}
use Rattle.serde_json.proofs.Numbers.{number_of-decimal, number_of-negative}
use Rattle.job_input.specs.Lines.{is_space, is_blank, row_of_line}
use Rattle.job_input.specs.Plain.{is_plain, plain_line, IsPlainLine}

-- ---- the key

escape_each : (s : List ℕ) → AllByRecursion (λ x. is_plain x ≡ true) s → escape s ≡ s
escape_each [] h = refl
escape_each (x ∷ xs) h =
    let least = and_parts (not (x == 34) && not (x == 92)) (nat_le 32 x) h.0 in
    let tests = and_parts (not (x == 34)) (not (x == 92)) least.0 in
    let one = escape_byte_plain x (eqb-false x 34 (not-true _ tests.0)) (eqb-false x 92 (not-true _ tests.1)) (leb-true 32 x least.1) in
    ap₂ (λ a b. a ++ b) one (escape_each xs h.1)

escape_plain : (s : List ℕ) → All (λ x. is_plain x ≡ true) s → escape s ≡ s
escape_plain s h = escape_each s (recursion_from_All _ s h)

lex-key : (s rest : List ℕ) → escape s ≡ s → lex between (34 ∷ (s ++ 34 ∷ rest)) ≡ token (string s) ∷ lex between rest
unfolding lex
lex-key s rest e =
    let read = ap (λ t. content plain (t ++ 34 ∷ rest)) (sym e) ∙ content-escape s rest in
    let passed = ap (λ t. lex in_string (t ++ 34 ∷ rest)) (sym e) ∙ lex-escape s rest in
    ap₂ (λ o ls. token (string_token o) ∷ ls) read passed

-- ---- what stands behind

each_space : (P : ℕ → Type 0) → P 32 → P 9 → P 13 → P 10 → (x : ℕ) → is_space x ≡ true → P x
each_space P a b c d x h = fourth (or_cases (((x == 32) || (x == 9)) || (x == 13)) (x == 10) h)
  where
    is : (n : ℕ) → P n → (x == n) ≡ true → P x
    is n p e = rw (eqb-true x n e) p

    second : ((x == 32) ≡ true) ⊎ ((x == 9) ≡ true) → P x
    second (inl e) = is 32 a e
    second (inr e) = is 9 b e

    third : (((x == 32) || (x == 9)) ≡ true) ⊎ ((x == 13) ≡ true) → P x
    third (inl e) = second (or_cases (x == 32) (x == 9) e)
    third (inr e) = is 13 c e

    fourth : ((((x == 32) || (x == 9)) || (x == 13)) ≡ true) ⊎ ((x == 10) ≡ true) → P x
    fourth (inl e) = third (or_cases ((x == 32) || (x == 9)) (x == 13) e)
    fourth (inr e) = is 10 d e

lex-blank : (xs : List ℕ) → is_blank xs ≡ true → lex between xs ≡ []
unfolding lex
lex-blank [] h = refl
lex-blank (x ∷ xs) h =
    let each = and_parts (is_space x) (is_blank xs) h in
    each_space (λ y. lex between (y ∷ xs) ≡ lex between xs) refl refl refl refl x each.0 ∙ lex-blank xs each.1

ascii-blank : (xs : List ℕ) → is_blank xs ≡ true → are_ascii xs ≡ true
ascii-blank [] h = refl
ascii-blank (x ∷ xs) h =
    let each = and_parts (is_space x) (is_blank xs) h in
    each_space (λ y. are_ascii (y ∷ xs) ≡ are_ascii xs) refl refl refl refl x each.0 ∙ ascii-blank xs each.1

-- ---- the tokens of the line

abbrev line_tokens : List ℕ → List ℕ → List Token
line_tokens k n = begin_object ∷ key (codes "k") ∷ string k ∷ key (codes "v") ∷ number n ∷ end_object ∷ []

tokens-line : (k n after : List ℕ) → escape k ≡ k → IsNumber n → is_blank after ≡ true → tokens (plain_line k n after) ≡ line_tokens k n
unfolding lex content punctuate
tokens-line k n after e is blank =
    let last : lex between (125 ∷ after) ≡ token end_object ∷ [] = ap (λ ls. token end_object ∷ ls) (lex-blank after blank) in
    let value : lex between (n ++ 125 ∷ after) ≡ token (number n) ∷ token end_object ∷ [] = lex-number n (125 ∷ after) is refl ∙ ap (λ ls. token (number n) ∷ ls) last in
    let name = lex-key k (44 ∷ 34 ∷ 118 ∷ 34 ∷ 58 ∷ (n ++ 125 ∷ after)) e in
    let all : lex between (plain_line k n after) ≡ token begin_object ∷ token (string (codes "k")) ∷ colon ∷ token (string k) ∷ comma ∷ token (string (codes "v")) ∷ colon ∷ token (number n) ∷ token end_object ∷ [] =
    ap (λ ls. token begin_object ∷ token (string (codes "k")) ∷ colon ∷ ls) (name ∙ ap (λ ls. token (string k) ∷ comma ∷ token (string (codes "v")) ∷ colon ∷ ls) value) in
    ap (punctuate fresh) all

-- ---- its value

abbrev members : List ℕ → Num → Data
members k n = values.object (values.member (codes "k") (values.string k) (values.member (codes "v") (values.number n) values.no_members))

abbrev whole : List Token → Option Data
whole ts = option_and_then of_json (option_and_then (λ p. json.if_last p.0 p.1) (json.value max_depth ts))

whole-line : (k s : List ℕ) (n : Num) → number_of s ≡ Some n → whole (line_tokens k s) ≡ Some (members k n)
unfolding json.items json.members json.value
whole-line k s n e = rw e refl

read-line : (k s after : List ℕ) (n : Num) → escape k ≡ k → IsNumber s → is_blank after ≡ true → number_of s ≡ Some n → read (plain_line k s after) ≡ Some (members k n)
read-line k s after n e is blank num = ap whole (tokens-line k s after e is blank) ∙ whole-line k s n num

row_of-members : (k : List ℕ) (n : Num) (v : ℤ) → as_i64 n ≡ Some v → row_of (members k n) ≡ row_with k v
unfolding row_of
row_of-members k n v e = rw e refl

number_of-printed : (v : ℤ) → FitsSigned w64 v → number_of (signed_decimal v) ≡ Some (of_integer v)
number_of-printed (pos n) fits = number_of-decimal n (omega (arith, fits.sfits))
number_of-printed (negsuc n) fits = number_of-negative n fits.sfits

as_i64-of_integer : (v : ℤ) → FitsSigned w64 v → as_i64 (of_integer v) ≡ Some v
as_i64-of_integer (pos n) fits = rw (lt-ltb n (2 ^ 63) fits.sfits) refl
as_i64-of_integer (negsuc n) fits = refl

-- ---- the row

utf8-line : (k n after : List ℕ) → IsUtf8 k → IsUtf8 n → is_blank after ≡ true → IsUtf8 (plain_line k n after)
utf8-line k n after k8 n8 blank =
    let front = IsUtf8-are_ascii (codes "{\"k\":\"") refl in
    let middle = IsUtf8-are_ascii (codes "\",\"v\":") refl in
    let end = IsUtf8-are_ascii (125 ∷ after) (ascii-blank after blank) in
    IsUtf8-append _ _ front (IsUtf8-append _ _ k8 (IsUtf8-append _ _ middle (IsUtf8-append _ _ n8 end)))

json_of-utf8 : (bytes : List ℕ) → IsUtf8 bytes → json_of bytes ≡ read bytes
unfolding json_of
json_of-utf8 bytes h = rw (is_utf8-from_IsUtf8 bytes h) refl

pub row_of_plain_line : (line k : List ℕ) (v : ℤ) → IsPlainLine line k v → row_of_line line ≡ row_with k v
unfolding row_of_line
row_of_plain_line line k v is =
    let value = read-line k (signed_decimal v) is.after (of_integer v) (escape_plain k is.plain) (IsNumber-signed_decimal v is.fits.sfits) is.blank (number_of-printed v is.fits) in
    let given = ap json_of is.text ∙ json_of-utf8 _ (utf8-line k (signed_decimal v) is.after is.key_utf8 is.number_utf8 is.blank) ∙ value in
    ap (λ o. or_fault Bad o >>= row_of) given ∙ row_of-members k (of_integer v) v (as_i64-of_integer v is.fits)
