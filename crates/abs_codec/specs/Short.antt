-- The bytes of a text, wherever they stand.
use Rattle.std.specs.Prelude.{ℕ, List, string_bytes}
use Rattle.abs_codec.specs.declared.text.Held.{Held}
use Rattle.abs_codec.specs.declared.text.Held.TheVariants.{Short, Long}

abbrev pub held_bytes : Held → List ℕ
held_bytes (Short short) = short.bytes
held_bytes (Long long) = string_bytes long
