-- What a barrier does at a gate.
use Rattle.std.specs.Prelude.{◌≡◌, ◌<◌, ℕ, zero, suc, List, Bool, true, false, not, ◌&&◌, count_by, if◌then◌else◌}
use Rattle.alignment.specs.declared.input.Input.{Input}
use Rattle.alignment.specs.declared.input.Phase.{Phase}
use Rattle.alignment.specs.declared.input.Phase.TheVariants.{AtRest, Aligning, Copied}
use Rattle.alignment.specs.declared.input.Effect.{Effect}
use Rattle.alignment.specs.declared.input.Effect.TheVariants.{Blocked, Copy, Closed, CopyAndDone, Done}
use Rattle.alignment.specs.Inputs.{input_at, with_barrier, without_barriers, missing_unmarked, missing_marked}

pub record Alignment : Type 0 where
  pub phase : Phase
  pub inputs : List Input

abbrev pub is_aligning : Phase → Bool
is_aligning AtRest = false
is_aligning (Aligning number) = true
is_aligning (Copied number) = false

abbrev pub has_copied : Phase → Bool
has_copied AtRest = false
has_copied (Aligning number) = false
has_copied (Copied number) = true

-- the gate is at rest, or this is its number
abbrev pub IsFor : Phase → ℕ → Type 0
IsFor AtRest number = Unit {0}
IsFor (Aligning other) number = other ≡ number
IsFor (Copied other) number = other ≡ number

-- the barrier of an unmarked input: so many unmarked and marked ones are missing now
abbrev pub at_unmarked : ℕ → ℕ → Effect
at_unmarked (suc more) marked = Blocked
at_unmarked zero (suc more) = Copy
at_unmarked zero zero = CopyAndDone

-- the barrier of a marked input: whether the task has copied, and so many marked ones are missing now
abbrev pub at_marked : Bool → ℕ → Effect
at_marked false marked = Blocked
at_marked true (suc more) = Closed
at_marked true zero = Done

-- what the barrier of this input brings about
abbrev pub effect_of : Alignment → ℕ → Effect
effect_of gate input =
    let inputs = with_barrier gate.inputs input in
    if (input_at gate.inputs input).is_marked
    then at_marked (has_copied gate.phase) (missing_marked inputs)
    else at_unmarked (missing_unmarked inputs) (missing_marked inputs)

-- how the gate stands after it, where these inputs have their barriers
abbrev pub after : Effect → ℕ → List Input → Alignment
after Blocked number inputs = record { phase = Aligning number; inputs = inputs }
after Copy number inputs = record { phase = Copied number; inputs = inputs }
after Closed number inputs = record { phase = Copied number; inputs = inputs }
after CopyAndDone number inputs = record { phase = AtRest; inputs = without_barriers inputs }
after Done number inputs = record { phase = AtRest; inputs = without_barriers inputs }

-- the gate is aligning, and the input's barrier came
abbrev pub is_blocked : Alignment → ℕ → Bool
is_blocked gate input = is_aligning gate.phase && (input_at gate.inputs input).came

-- the input is an open marked one of a copied gate
abbrev pub is_logged : Alignment → ℕ → Bool
is_logged gate input = has_copied gate.phase && ((input_at gate.inputs input).is_marked && not (input_at gate.inputs input).came)

-- How a gate always stands: at rest no barrier has come; while it aligns an unmarked one is missing, if it has one; once it has copied
-- no unmarked one is missing, and a marked one is.
abbrev pub IsKept : Phase → List Input → Type 0
IsKept AtRest inputs = count_by (λ input. input.came) inputs ≡ 0
IsKept (Aligning number) inputs = 0 < count_by (λ input. not input.is_marked) inputs → 0 < missing_unmarked inputs
IsKept (Copied number) inputs = (missing_unmarked inputs ≡ 0) × (0 < missing_marked inputs)
