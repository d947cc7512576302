-- Lines in the form that rows are printed in.
use Rattle.std.specs.Prelude.{◌≡◌, ℕ, ℤ, List, ◌++◌, ◌==◌, ◌&&◌, Bool, true, not, All, nat_le, codes, IsUtf8, FitsSigned}
use Rattle.std.specs.Fmt.{signed_decimal}
use Rattle.std.specs.Int.{w64}
use Rattle.job_input.specs.Lines.{is_blank}

-- a byte that means itself in a JSON string
abbrev pub is_plain : ℕ → Bool
is_plain byte = not (byte == 34) && not (byte == 92) && nat_le 32 byte

abbrev pub plain_line : List ℕ → List ℕ → List ℕ → List ℕ
plain_line key number after = codes "{\"k\":\"" ++ (key ++ (codes "\",\"v\":" ++ (number ++ (codes "}" ++ after))))

-- the line is `{"k":"..","v":N}` of this key and this number, with no escape and nothing but spaces behind
pub record IsPlainLine (line key : List ℕ) (v : ℤ) : Type 0 where
  pub after : List ℕ
  pub text : line ≡ plain_line key (signed_decimal v) after
  pub blank : is_blank after ≡ true
  pub plain : All (λ x. is_plain x ≡ true) key
  pub key_utf8 : IsUtf8 key
  pub fits : FitsSigned w64 v
  pub number_utf8 : IsUtf8 (signed_decimal v)
