-- Numbers as a script writes them: the text that is printed for the number.
use Rattle.std.specs.Prelude.{ℕ, ℤ, pos, negsuc, ◌^◌, ◌&&◌, List, Bool, nat_lt, Option, Some, None, if◌then◌else◌, decimal}
use Rattle.std.specs.Fmt.{signed_decimal}
use Rattle.std.specs.Str.{bytes_eq}
use Rattle.std.specs.Str.Parse.{digits_value, signed_digits_value}

-- the number below 2^32 that is printed so
unfoldable pub number_of : List ℕ → Option ℕ
number_of text =
    let n = digits_value 10 text in
    if nat_lt n (2 ^ 32) && bytes_eq (decimal n) text then Some n else None

abbrev pub has_64_bits : ℤ → Bool
has_64_bits (pos n) = nat_lt n (2 ^ 63)
has_64_bits (negsuc n) = nat_lt n (2 ^ 63)

-- the signed number of 64 bits that is printed so
unfoldable pub signed_number_of : List ℕ → Option ℤ
signed_number_of text =
    let z = signed_digits_value 10 text in
    if has_64_bits z && bytes_eq (signed_decimal z) text then Some z else None
