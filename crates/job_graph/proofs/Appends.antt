-- Bytes that are written one after another.
use Rattle.std.proofs.Common.{◌≡◌, ◌∙◌, ℕ, ◌+◌, ◌<◌, List, [], ◌∷◌, ◌++◌, length, drop, get_or, sym, ap, append_assoc, add-one, drop-cons}
use Rattle.std.specs.List.{flat_map}

pub appended_five : (a b c d e f one two three : List ℕ) (x y v w : ℕ) → b ≡ a ++ one → c ≡ b ++ two → d ≡ c ++ three → e ≡ d ++ x ∷ [] → f ≡ e ++ y ∷ [] → x ≡ v → y ≡ w
    → f ≡ a ++ (one ++ two ++ three ++ (v ∷ w ∷ []))
appended_five a b c d e f one two three x y v w first second third fourth fifth same_x same_y =
    rw (fifth, fourth, third, second, first, same_x, same_y) (simp append_assoc)

pub flat_map_next : {X A : Type 0} (f : X → List A) (xs : List X) (i : ℕ) (d : X) (done new all : List A) → i < length xs → new ≡ done ++ f (get_or xs i d)
    → done ++ flat_map f (drop i xs) ≡ all → new ++ flat_map f (drop (i + 1) xs) ≡ all
flat_map_next f xs i d done new all within pushed before =
    let next : drop i xs ≡ get_or xs i d ∷ drop (i + 1) xs = rw add-one (drop-cons xs i d within) in
    ap (λ l. l ++ flat_map f (drop (i + 1) xs)) pushed ∙ append_assoc done (f (get_or xs i d)) _ ∙ sym (ap (λ l. done ++ flat_map f l) next) ∙ before
