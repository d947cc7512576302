-- What is spelled is read again.
use Rattle.std.proofs.Common.{◌≡◌, ℕ, List, [], Ok, refl, sym, ap, ◌∙◌}
use Rattle.std.proofs.lemmas.List.{append-nil}
use Rattle.abs_codec.specs.Laws.{IsCode}
use Rattle.abs_codec.specs.Reading.{Reading, whole_of}

whole_is : {A : Type 0} (r : List ℕ → Reading A) (bytes : List ℕ) (v : A) → r bytes ≡ Ok (v, []) → whole_of r bytes ≡ Ok v
unfolding whole_of
whole_is r bytes v e = rw e refl

pub whole_again : {A : Type 0} (H : A → Type 0) (s : A → List ℕ) (r : List ℕ → Reading A) → IsCode H s r → (v : A) → H v → whole_of r (s v) ≡ Ok v
whole_again H s r code v has = whole_is r (s v) v (ap r (sym (append-nil (s v))) ∙ code.again v [] has)
