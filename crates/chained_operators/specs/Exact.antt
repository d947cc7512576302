-- Values that hold a fact about two that they are made of are the same where both are the same.
use Rattle.std.proofs.Common.{◌≡◌, ap, subst}

pub same_parts : {A B C : Type 0} {P : A → B → Type 0} (make : (a : A) (b : B) → P a b → C) → ((a : A) (b : B) (p q : P a b) → p ≡ q) → (a a' : A) (b b' : B) (p : P a b) (q : P a' b') → a ≡ a' → b ≡ b' → make a b p ≡ make a' b' q
same_parts {A} {B} {C} {P} make one a a' b b' p q e e' =
    let Q : A → Type 0 = λ x. (h : P x b) → make a b p ≡ make x b h in
    let S : B → Type 0 = λ y. (h : P a' y) → make a b p ≡ make a' y h in
    subst S e' (subst Q e (λ h. ap (make a b) (one a b p h))) q
