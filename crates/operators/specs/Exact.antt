-- Values that hold a fact about what they are made of are the same where that is the same.
use Rattle.std.proofs.Common.{◌≡◌, ap, subst}

pub same_part : {A C : Type 0} {P : A → Type 0} (make : (a : A) → P a → C) → ((a : A) (p q : P a) → p ≡ q) → (a a' : A) (p : P a) (q : P a') → a ≡ a' → make a p ≡ make a' q
same_part {A} {C} {P} make one a a' p q e =
    let Q : A → Type 0 = λ x. (h : P x) → make a p ≡ make x h in
    subst Q e (λ h. ap (make a) (one a p h)) q
