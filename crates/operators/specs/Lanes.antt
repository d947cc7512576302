-- By which number a row is routed.
use Rattle.std.specs.Prelude.{ℕ, ◌+◌, ◌*◌, ◌%◌, ◌^◌, List, fold}

abbrev pub lane_after : ℕ → ℕ → ℕ
lane_after h byte = (31 * h + byte) % 2 ^ 32

abbrev pub lane_of : List ℕ → ℕ
lane_of key = fold lane_after 0 key
