-- Values that compare equal are the same value.
use Rattle.std.proofs.Common.{◌≡◌, Bool, true, ◌&&◌, List, [], ◌∷◌, refl, ap, ◌∙◌}
use Rattle.std.specs.Prelude.{nat_eq}
use Rattle.std.specs.Ordering.{int_eq}
use Rattle.std.specs.Cmp.{first_so, second_so}
use Rattle.std.specs.Cmp.Lexicographic.{pointwise}
use Rattle.std.proofs.lemmas.Bool.Decides.{Decides-eqb, Decides-int_eq}

abbrev pub EqualIsSame : {A : Type 0} → (A → A → Bool) → Type 0
EqualIsSame {A} eq = (x y : A) → eq x y ≡ true → x ≡ y

pub equal_numbers : EqualIsSame nat_eq
equal_numbers x y e = (Decides-eqb x y).0 e

pub equal_integers : EqualIsSame int_eq
equal_integers x y e = (Decides-int_eq x y).0 e

pub equal_lists : {A : Type 0} (eq : A → A → Bool) → EqualIsSame eq → EqualIsSame (pointwise eq)
equal_lists eq same [] [] e = refl
equal_lists eq same [] (y ∷ ys) e = absurd cc
equal_lists eq same (x ∷ xs) [] e = absurd cc
equal_lists {A} eq same (x ∷ xs) (y ∷ ys) e =
    let first : x ≡ y = same x y (first_so (eq x y) (pointwise eq xs ys) e) in
    let others : xs ≡ ys = equal_lists eq same xs ys (second_so (eq x y) (pointwise eq xs ys) e) in
    ap (λ (z : A). z ∷ xs) first ∙ ap (λ (zs : List A). y ∷ zs) others

pub equal_bytes : EqualIsSame (pointwise nat_eq)
equal_bytes = equal_lists nat_eq equal_numbers

pub equal_pairs : {A B : Type 0} (eq : A → A → Bool) (eq' : B → B → Bool) → EqualIsSame eq → EqualIsSame eq' → EqualIsSame (λ (p q : A × B). eq p.0 q.0 && eq' p.1 q.1)
equal_pairs {A} {B} eq eq' same same' p q e =
    let first : p.0 ≡ q.0 = same p.0 q.0 (first_so (eq p.0 q.0) (eq' p.1 q.1) e) in
    let second : p.1 ≡ q.1 = same' p.1 q.1 (second_so (eq p.0 q.0) (eq' p.1 q.1) e) in
    let P : A × B → A × B → Type 0 = λ x y. x ≡ y in
    ap (λ (x : A). (x, p.1)) first ∙ ap (λ (y : B). (q.0, y)) second
