-- What a gate counts.
use Rattle.std.specs.Prelude.{◌≡◌, ℕ, List, count_by}
use Rattle.alignment.specs.declared.input.Input.{Input}
use Rattle.alignment.specs.declared.input.Phase.{Phase}
use Rattle.alignment.specs.Inputs.{missing_unmarked, missing_marked}
use Rattle.alignment.specs.Table.{IsKept}

pub record IsCounted (phase : Phase) (inputs : List Input) (marked unmarked_left marked_left : ℕ) : Type 0 where
  pub kept : IsKept phase inputs
  pub all_marked : marked ≡ count_by (λ input. input.is_marked) inputs
  pub left_unmarked : unmarked_left ≡ missing_unmarked inputs
  pub left_marked : marked_left ≡ missing_marked inputs
