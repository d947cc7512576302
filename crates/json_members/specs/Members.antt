-- The members of an object, by their types.
use Rattle.std.specs.Prelude.{ℕ, ℤ, ◌&&◌, List, Bool, true, false, Option, option_and_then}
use Rattle.std.specs.Str.{bytes_eq}
use Rattle.std.specs.List.{list_any}
use Rattle.std.specs.Option.{option_map_or}
use Rattle.serde_json.specs.Data.{Data, Members, no_members, member}
use Rattle.serde_json.specs.Find.{get, as_str, as_number, as_i64, as_object}

-- an object whose members all have one of these names
abbrev pub have_names : List (List ℕ) → Members → Bool
have_names names no_members = true
have_names names (member k d ms) = list_any (bytes_eq k) names && have_names names ms

abbrev pub has_only : List (List ℕ) → Data → Bool
has_only names d = option_map_or (have_names names) (as_object d) false

-- a whole number of 64 bits
abbrev pub whole : Data → Option ℤ
whole d = option_and_then as_i64 (as_number d)

-- the text, or the whole number, under a name
abbrev pub text_at : List ℕ → Data → Option (List ℕ)
text_at name d = option_and_then as_str (get name d)

abbrev pub whole_at : List ℕ → Data → Option ℤ
whole_at name d = option_and_then whole (get name d)
