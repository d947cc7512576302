-- The first eight bytes of a text as one number, which tells most texts apart.
use Rattle.std.proofs.Common.{◌≡◌, ℕ, zero, suc, ◌+◌, ◌*◌, ◌^◌, List, [], ◌∷◌}
use Rattle.abs_codec.specs.Reading.{IsBytes}

-- the first `n` bytes as one number, the first of them the highest; past the end they are 0
abbrev pub leading : ℕ → List ℕ → ℕ
leading zero bytes = 0
leading (suc n) [] = 0
leading (suc n) (byte ∷ bytes) = byte * 256 ^ n + leading n bytes

pub record IsFirstWord (text : List ℕ) (first : ℕ) : Type 0 where
  pub made : first ≡ leading 8 text
  pub bytes : IsBytes text
