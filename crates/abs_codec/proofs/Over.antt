-- Writing over bytes that are there, one piece after the other.
use Rattle.std.proofs.Common.{◌≡◌, ℕ, ◌+◌, ◌≤◌, ◌<◌, List, ◌++◌, length, get_or, take, sym, ap, ◌∙◌, append_assoc, arith}
use Rattle.std.specs.List.{flat_map}
use Rattle.std.proofs.lemmas.List.{length-append, take-take}
use Rattle.abs_codec.specs.Spelling.{IsWrittenAt}
use Rattle.abs_codec.proofs.Lists.{flat_map-take}

-- what stands before a place stands before each later one
pub stays : (at later : ℕ) (old mid new : List ℕ) → at ≤ later → take at mid ≡ take at old → take later new ≡ take later mid → take at new ≡ take at old
stays at later old mid new le kept same =
    sym (take-take at later new le) ∙ ap (take at) same ∙ take-take at later mid le ∙ kept

-- a second piece is written behind the first
pub then_written : (old mid new a b : List ℕ) (at middle end : ℕ) → IsWrittenAt old mid at a middle → IsWrittenAt mid new middle b end → IsWrittenAt old new at (a ++ b) end
then_written old mid new a b at middle end first second = (
  omega (arith, first.0, second.0, length-append a b),
  second.1,
  second.2 ∙ ap (λ t. t ++ b) first.2 ∙ append_assoc (take at old) a b,
)

-- one item more is written
pub longer : {A : Type 0} (spelling : A → List ℕ) (xs : List A) (i : ℕ) (x : A) → i < length xs → x ≡ get_or xs i x → length (flat_map spelling (take (i + 1) xs)) ≡ length (flat_map spelling (take i xs)) + length (spelling x)
longer spelling xs i x lt is =
    ap length (flat_map-take spelling xs i x lt is) ∙ length-append (flat_map spelling (take i xs)) (spelling x)
