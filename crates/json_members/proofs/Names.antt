-- The names of an object's members.
use Rattle.std.proofs.Common.{◌≡◌, ◌&&◌, ◌||◌, ℕ, List, [], ◌∷◌, map, Bool, String, Global, string_bytes, Bor, refl, ap}
use Rattle.std.specs.List.{list_any, list_all}
use Rattle.std.specs.Str.{bytes_eq}
use Rattle.std.specs.Map.{keys_of}
use Rattle.serde_json.specs.View.{members_view}
use Rattle.serde_json.specs.declared.value.Value.{Value}
use Rattle.json_members.specs.Members.{have_names}

list_any-now : (test : List ℕ → Bool) (ns : List (Bor (List ℕ))) → list_any (λ n. test n.now) ns ≡ list_any test (map (λ (n : Bor (List ℕ)). n.now) ns)
list_any-now test [] = refl
list_any-now test (n ∷ ns) = ap (λ b. test n.now || b) (list_any-now test ns)

pub have_names-keys : (ns : List (Bor (List ℕ))) (es : List (String Global × Value))
    → list_all (λ k. list_any (λ n. bytes_eq (string_bytes k) n.now) ns) (keys_of es) ≡ have_names (map (λ (n : Bor (List ℕ)). n.now) ns) (members_view es)
have_names-keys ns [] = refl
have_names-keys ns (e ∷ es) = rw (list_any-now (bytes_eq (string_bytes e.0)) ns) (ap (λ b. list_any (bytes_eq (string_bytes e.0)) (map (λ (n : Bor (List ℕ)). n.now) ns) && b) (have_names-keys ns es))
