-- The bytes of a part, wherever they stand.
use Rattle.std.specs.Prelude.{ℕ, List}
use Rattle.operator_state.specs.declared.part_bytes.Held.{Held}
use Rattle.operator_state.specs.declared.part_bytes.Held.TheVariants.{Own, Shared}

abbrev pub held_bytes : Held → List ℕ
held_bytes (Own own) = own.items
held_bytes (Shared bytes) = bytes
