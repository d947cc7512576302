-- What is spelled is read again.
use Rattle.std.proofs.Common.{◌≡◌, ℕ, List, [], Result, Ok, Err, IfOk, refl, sym, ap, ◌∙◌}
use Rattle.abs_codec.specs.declared.fault.CodecFault.{CodecFault}
use Rattle.std.proofs.lemmas.List.{append-nil}
use Rattle.abs_codec.specs.Laws.{IsCode}
use Rattle.abs_codec.specs.Reading.{Reading, whole_of}

whole_is : {A : Type 0} (r : List ℕ → Reading A) (bytes : List ℕ) (v : A) → r bytes ≡ Ok (v, []) → whole_of r bytes ≡ Ok v
unfolding whole_of
whole_is r bytes v e = rw e refl

pub whole_again : {A : Type 0} (H : A → Type 0) (s : A → List ℕ) (r : List ℕ → Reading A) → IsCode H s r → (bytes : List ℕ) (v : A) → H v × (bytes ≡ s v) → whole_of r bytes ≡ Ok v
whole_again H s r code bytes v found = ap (whole_of r) found.1 ∙ whole_is r (s v) v (ap r (sym (append-nil (s v))) ∙ code.again v [] found.0)

pub read_whole : {A : Type 0} (H : A → Type 0) (s : A → List ℕ) (r : List ℕ → Reading A) → IsCode H s r → (bytes : List ℕ) (result : Result A CodecFault) → IfOk result (λ v. H v × (bytes ≡ s v)) → IfOk result (λ v. whole_of r bytes ≡ Ok v)
read_whole H s r code bytes (Ok v) found = whole_again H s r code bytes v found
read_whole H s r code bytes (Err f) found = tt
