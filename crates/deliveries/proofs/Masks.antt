-- A number that has no digit in common with the one below it is a power of two, and a mask tells
-- the remainder by it.
use Rattle.std.proofs.Common.{◌≡◌, ◌<◌, ◌≤◌, ◌-◌, ◌/◌, ◌%◌, ℕ, zero, suc, refl, sym, ap, ap₂, ◌∙◌, arith, bit_and, pow-suc, subst}
use lib.Bits.{and_step, and_mask}
use Rattle.std.specs.Int.{IsPowerOfTwo}

and_same : (fuel n : ℕ) → n ≤ fuel → bit_and n n ≡ n
and_same zero n within = let none : n ≡ 0 = omega arith in ap₂ bit_and none none ∙ sym none
and_same (suc fuel) zero within = refl
and_same (suc fuel) (suc n) within = omega (arith, and_step (suc n) (suc n), and_same fuel (suc n / 2) (omega arith))

-- the half of an even number is one too
even : (n : ℕ) → 0 < n → n % 2 ≡ 0 → bit_and n (n - 1) ≡ 0 → (bit_and (n / 2) (n / 2 - 1) ≡ 0 → IsPowerOfTwo (n / 2)) → IsPowerOfTwo n
even n some twice apart half =
    let below : (n - 1) / 2 ≡ n / 2 - 1 = omega arith in
    let exponent = half (ap (bit_and (n / 2)) (sym below) ∙ omega (arith, and_step n (n - 1))) in
    (suc exponent.0, omega (arith, exponent.1, pow-suc 2 exponent.0))

-- 1 is the only odd one
odd : (n : ℕ) → n % 2 ≡ 1 → bit_and n (n - 1) ≡ 0 → n ≡ 1
odd n single apart =
    let below : (n - 1) / 2 ≡ n / 2 = omega arith in
    let none : bit_and (n / 2) (n / 2) ≡ 0 = ap (bit_and (n / 2)) (sym below) ∙ omega (arith, and_step n (n - 1)) in
    omega (arith, none, and_same (n / 2) (n / 2) (omega arith))

power : (fuel n : ℕ) → n ≤ fuel → 0 < n → bit_and n (n - 1) ≡ 0 → IsPowerOfTwo n
power zero n within some apart = absurd (omega arith)
power (suc fuel) n within some apart = by (n % 2) refl (λ rest. power fuel (n / 2) (omega arith) rest)
  where
    by : (last : ℕ) → n % 2 ≡ last → (0 < n / 2 → bit_and (n / 2) (n / 2 - 1) ≡ 0 → IsPowerOfTwo (n / 2)) → IsPowerOfTwo n
    by zero is half = even n some is apart (half (omega arith))
    by (suc last) is half = (0, odd n (omega arith) apart)

pub mask_turns : (lane n : ℕ) → 0 < n → bit_and n (n - 1) ≡ 0 → bit_and lane (n - 1) ≡ lane % n
mask_turns lane n some apart =
    let exponent = power n n (omega arith) some apart in
    subst (λ (m : ℕ). bit_and lane (m - 1) ≡ lane % m) (sym exponent.1) (and_mask lane exponent.0)
