-- A gate stands as it always does after each row of the table.
use Rattle.std.proofs.Common.{◌≡◌, ◌<◌, ◌+◌, ℕ, zero, suc, Bool, true, false, not, cond, arith, length, List, if◌then◌else◌, refl, ◌⊎◌, inl, inr}
use Rattle.std.proofs.lemmas.Bool.{true≢false}
use Rattle.std.specs.List.{count_by}
use Rattle.alignment.specs.declared.input.Input.{Input}
use Rattle.alignment.specs.declared.input.Phase.{Phase}
use Rattle.alignment.specs.declared.input.Phase.TheVariants.{AtRest, Aligning, Copied}
use Rattle.alignment.specs.declared.input.Effect.{Effect}
use Rattle.alignment.specs.declared.input.Effect.TheVariants.{Blocked, CopyAndDone, Done}
use Rattle.alignment.specs.Inputs.{input_at, with_barrier, without_barriers, missing_unmarked}
use Rattle.alignment.specs.Table.{Alignment, IsKept, has_copied, at_unmarked, at_marked, effect_of, after}
use Rattle.alignment.proofs.Counts.{all_missing, one_less, without-with}

-- a blocked input leaves an unmarked barrier missing, where there is an unmarked input and all of them were missing, or one was
left_missing : (phase : Phase) (mark : Bool) (plain old left marked : ℕ) → (has_copied phase ≡ false → 0 < plain → 0 < old) → left + cond (not mark) 1 0 ≡ old
    → (if mark then at_marked (has_copied phase) marked else at_unmarked left marked) ≡ Blocked → 0 < plain → 0 < left
left_missing phase false plain old zero zero missing one is some = absurd (cc)
left_missing phase false plain old zero (suc marked) missing one is some = absurd (cc)
left_missing phase false plain old (suc left) marked missing one is some = omega arith
left_missing AtRest true plain old left marked missing one is some = let h : 0 < old = missing refl some in omega (arith, h, one)
left_missing (Aligning n) true plain old left marked missing one is some = let h : 0 < old = missing refl some in omega (arith, h, one)
left_missing (Copied n) true plain old left zero missing one is some = absurd (cc)
left_missing (Copied n) true plain old left (suc marked) missing one is some = absurd (cc)

-- before the copy an unmarked barrier is missing, if there is an unmarked input
before_copy : (phase : Phase) (inputs : List Input) → IsKept phase inputs → has_copied phase ≡ false → 0 < count_by (λ input. not input.is_marked) inputs → 0 < missing_unmarked inputs
before_copy AtRest inputs kept before some = rw (all_missing inputs kept).plain some
before_copy (Aligning n) inputs kept before some = kept some
before_copy (Copied n) inputs kept before some = absurd (true≢false before)

pub blocked_keeps : (gate : Alignment) (input number : ℕ) → input < length gate.inputs → (input_at gate.inputs input).came ≡ false → IsKept gate.phase gate.inputs
    → effect_of gate input ≡ Blocked → IsKept (Aligning number) (with_barrier gate.inputs input)
blocked_keeps gate input number within awaited kept is some =
    let less = one_less gate.inputs input within awaited in
    left_missing gate.phase (input_at gate.inputs input).is_marked _ _ _ _ (before_copy gate.phase gate.inputs kept) less.unmarked is (rw (← less.plain) some)

-- the barrier that brings the gate to rest is forgotten with the others
pub after_rest : (effect : Effect) (number : ℕ) (inputs : List Input) (input : ℕ) → (effect ≡ CopyAndDone) ⊎ (effect ≡ Done)
    → ◌≡◌ {A = Alignment} (record { phase = AtRest; inputs = without_barriers inputs }) (after effect number (with_barrier inputs input))
after_rest effect number inputs input (inl is) = rw (is, without-with inputs input) refl
after_rest effect number inputs input (inr is) = rw (is, without-with inputs input) refl
