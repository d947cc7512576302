-- A value that is kept alone, or with those who read it.
use Rattle.std.specs.Arc.{arc_value}
use Rattle.keyed_state.specs.declared.lending.Kept.{Kept}
use Rattle.keyed_state.specs.declared.lending.Kept.TheVariants as kept

abbrev pub kept_value : {T : Type 0} → Kept T → T
kept_value (kept.Alone value) = value
kept_value (kept.Shared shared) = arc_value shared
