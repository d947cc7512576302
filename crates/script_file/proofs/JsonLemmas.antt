-- The lists of a script.
use Rattle.std.proofs.Common.{◌≡◌, ◌&&◌, List, [], ◌∷◌, Bool, refl, ap}
use Rattle.std.specs.List.{list_all}
use Rattle.serde_json.specs.Data.{Data}
use Rattle.serde_json.specs.View.{view, items_view}
use Rattle.serde_json.specs.declared.value.Value.{Value}
use Rattle.script_file.specs.Json.{all_items}

-- a test of each item is one of each value
pub all_items_view : (test : Data → Bool) (xs : List Value) → list_all (λ v. test (view v)) xs ≡ all_items test (items_view xs)
all_items_view test [] = refl
all_items_view test (x ∷ xs) = ap (λ b. test (view x) && b) (all_items_view test xs)
