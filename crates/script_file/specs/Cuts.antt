-- A text, cut at its first space.
use Rattle.std.specs.Prelude.{ℕ, ◌==◌, List, length, nat_lt, Option, Some, None, Result, if◌then◌else◌}
use Rattle.std.specs.List.{before_first, after_first, position_or_len}
use Rattle.script_file.specs.declared.fault.ItemFault.{ItemFault}
use Rattle.script_file.specs.declared.fault.ItemFault.TheVariants as one
use Rattle.script_file.specs.Faults.{or_fault}

-- what stands before the first space and after it
unfoldable pub cut : List ℕ → Option (List ℕ × List ℕ)
cut text =
    if nat_lt (position_or_len (λ b. b == 32) text) (length text) then Some (before_first (λ b. b == 32) text, after_first (λ b. b == 32) text)
    else None

-- the value, or a bad step where there is none
abbrev pub bad : {A : Type 0} → Option A → Result A ItemFault
bad o = or_fault one.Bad o
