-- The states that keys are expected to have.
use Rattle.std.specs.Prelude.{◌≡◌, List, Option, map}
use Rattle.std.specs.declared.cmp.Ordering.{Ordering}
use Rattle.abs_codec.specs.Entries.{value_at}

-- each of these keys has this state among the entries, `None` where it has none
abbrev pub HaveStates : {K S : Type 0} → (K → K → Ordering) → (entries : List (K × S)) → List K → List (Option S) → Type 0
HaveStates cmp entries keys states = map (value_at cmp entries) keys ≡ states
