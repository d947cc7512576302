-- A number as it is printed, and as it is read.
use Rattle.std.proofs.Common.{◌≡◌, ◌∙◌, ℕ, ℤ, pos, negsuc, suc, ◌<◌, ◌^◌, ◌&&◌, ◌==◌, List, [], ◌∷◌, length, Bool, true, false, cond, Option, Some, None, IfSome, IfNone, FitsSigned, decimal, refl, sym, ap, arith, nat_lt, true≢false}
use Rattle.std.specs.Fmt.{signed_decimal}
use Rattle.std.specs.Int.{w64}
use Rattle.std.proofs.lemmas.Fmt.{decimal_is_IsNumeral}
use Rattle.std.proofs.lemmas.Bool.{lt-ltb, ltb-true, eqb-true}
use Rattle.std.proofs.lemmas.Slice.Eq.{bytes_eq-Decides}
use Rattle.std.specs.Str.{bytes_eq}
use Rattle.std.specs.Str.Parse.{AllDigits, digits_value, signed_digits_value}
use Rattle.std.specs.Char.{digit_value}
use Rattle.script_file.specs.Numbers.{number_of, signed_number_of, has_64_bits}

both : (a b : Bool) → (a && b) ≡ true → (a ≡ true) × (b ≡ true)
both true b h = (refl, h)
both false b h = absurd (true≢false (sym h))

value-decimal : (n : ℕ) → n < 2 ^ 64 → digits_value 10 (decimal n) ≡ n
value-decimal n small = (decimal_is_IsNumeral n small).1

-- the one value that a test of its own text lets through
module _ {A : Type 0} (value : List ℕ → A) (fits : A → Bool) (text_of : A → List ℕ) where
  of_text : List ℕ → Option A
  of_text text = cond (fits (value text) && bytes_eq (text_of (value text)) text) (Some (value text)) None

  pub some_of : (text : List ℕ) (x : A) → fits x ≡ true → value (text_of x) ≡ x → text ≡ text_of x → cond (fits (value text) && bytes_eq (text_of (value text)) text) (Some (value text)) None ≡ Some x
  some_of text x fit again e = rw (e, again, fit, (bytes_eq-Decides (text_of x) (text_of x)).1 refl) refl

  pub none_of : (text : List ℕ) → ((x : A) → fits x ≡ true → text ≡ text_of x → ⊥) → cond (fits (value text) && bytes_eq (text_of (value text)) text) (Some (value text)) None ≡ None
  none_of text never = by (fits (value text) && bytes_eq (text_of (value text)) text) refl
    where
      by : (b : Bool) → (fits (value text) && bytes_eq (text_of (value text)) text) ≡ b → cond b (Some (value text)) None ≡ None
      by true e =
          let parts = both _ _ e in
          absurd (never (value text) parts.0 (sym ((bytes_eq-Decides (text_of (value text)) text).0 parts.1)))
      by false e = refl

pub number_of-is : (text : List ℕ) (r : Option ℕ) → IfSome r (λ n. (n < 2 ^ 32) × (text ≡ decimal n)) → IfNone r ((n : ℕ) → n < 2 ^ 32 → text ≡ decimal n → ⊥) → r ≡ number_of text
unfolding number_of
number_of-is text None some none = sym (none_of (digits_value 10) (λ n. nat_lt n (2 ^ 32)) decimal text (λ n small. none n (ltb-true _ _ small)))
number_of-is text (Some n) some none =
    let wide : n < 2 ^ 64 = omega (arith, some.0) in
    sym (some_of (digits_value 10) (λ n. nat_lt n (2 ^ 32)) decimal text n (lt-ltb n (2 ^ 32) some.0) (value-decimal n wide) some.1)

-- a digit is no sign
sign_is_no_digit : (c sign : ℕ) (b : Bool) → (c == sign) ≡ b → digit_value c < 10 → (digit_value sign < 10 → ⊥) → b ≡ false
sign_is_no_digit c sign true e digit never = absurd (never (rw (eqb-true c sign e) at digit))
sign_is_no_digit c sign false e digit never = refl

-- digits with no sign are read as they are
signed-digits : (ds : List ℕ) → 0 < length ds → AllDigits 10 ds → signed_digits_value 10 ds ≡ pos (digits_value 10 ds)
signed-digits [] some all = absurd (omega arith)
signed-digits (c ∷ cs) some all =
    rw (sign_is_no_digit c 45 (c == 45) refl all.0 (λ h. absurd (omega (arith, h))), sign_is_no_digit c 43 (c == 43) refl all.0 (λ h. absurd (omega (arith, h)))) refl

value-signed : (z : ℤ) → has_64_bits z ≡ true → signed_digits_value 10 (signed_decimal z) ≡ z
value-signed (pos n) small =
    let below = ltb-true n (2 ^ 63) small in
    let k = decimal_is_IsNumeral n (let wide : n < 2 ^ 64 = omega (arith, below) in wide) in
    signed-digits (decimal n) k.0.0 k.0.1 ∙ ap pos k.1
value-signed (negsuc n) small =
    let below = ltb-true n (2 ^ 63) small in
    let wide : suc n < 2 ^ 64 = omega (arith, below) in
    rw (value-decimal (suc n) wide) refl

fits_from : (z : ℤ) → has_64_bits z ≡ true → FitsSigned w64 z
fits_from (pos n) small = record { sfits = ltb-true n (2 ^ 63) small }
fits_from (negsuc n) small = record { sfits = ltb-true n (2 ^ 63) small }

has_from : (z : ℤ) → FitsSigned w64 z → has_64_bits z ≡ true
has_from (pos n) fits = lt-ltb n (2 ^ 63) (omega (arith, fits.sfits))
has_from (negsuc n) fits = lt-ltb n (2 ^ 63) (omega (arith, fits.sfits))

pub signed_number_of-is : (text : List ℕ) (r : Option ℤ) → IfSome r (λ z. FitsSigned w64 z × (text ≡ signed_decimal z)) → IfNone r ((z : ℤ) → FitsSigned w64 z → text ≡ signed_decimal z → ⊥) → r ≡ signed_number_of text
unfolding signed_number_of
signed_number_of-is text None some none = sym (none_of (signed_digits_value 10) has_64_bits signed_decimal text (λ z small. none z (fits_from z small)))
signed_number_of-is text (Some z) some none = sym (some_of (signed_digits_value 10) has_64_bits signed_decimal text z (has_from z some.0) (value-signed z (has_from z some.0)) some.1)
