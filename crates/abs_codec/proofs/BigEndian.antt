-- A number is what byteorder reads of its bytes.
use Rattle.std.proofs.Common.{◌≡◌, ℕ, List, arith}
use Rattle.std.specs.Int.{w32, w64, from_be_bytes}
use Rattle.byteorder.specs.Endian.{big_number}

pub big_number-4 : (xs : List ℕ) → big_number 4 xs ≡ from_be_bytes w32 xs
big_number-4 xs = omega arith

pub big_number-8 : (xs : List ℕ) → big_number 8 xs ≡ from_be_bytes w64 xs
big_number-8 xs = omega arith

pub ruleset big_numbers = (big_number-4, big_number-8)
