-- The inputs of a gate: which are marked, and from which the barrier has come.
use Rattle.std.specs.Prelude.{ℕ, List, Bool, true, false, not, ◌&&◌, map, count_by, slice_index_or, slice_set}
use Rattle.alignment.specs.declared.input.Input.{Input}

-- an input of which nothing has come
abbrev pub fresh : Bool → Input
fresh is_marked = record { is_marked = is_marked; came = false }

abbrev pub input_at : List Input → ℕ → Input
input_at inputs input = slice_index_or inputs input (fresh false)

-- the inputs once the barrier of one more has come
abbrev pub with_barrier : List Input → ℕ → List Input
with_barrier inputs input = slice_set inputs input (record (input_at inputs input) { came = true })

-- the inputs once all barriers are forgotten
abbrev pub without_barriers : List Input → List Input
without_barriers inputs = map (λ input. fresh input.is_marked) inputs

-- the barrier of an unmarked input is missing
abbrev pub misses_unmarked : Input → Bool
misses_unmarked input = not input.is_marked && not input.came

-- the barrier of a marked input is missing
abbrev pub misses_marked : Input → Bool
misses_marked input = input.is_marked && not input.came

-- of how many unmarked inputs the barrier is missing
abbrev pub missing_unmarked : List Input → ℕ
missing_unmarked inputs = count_by misses_unmarked inputs

-- of how many marked inputs the barrier is missing
abbrev pub missing_marked : List Input → ℕ
missing_marked inputs = count_by misses_marked inputs
