-- Later writes, laid over a map.
use Rattle.std.specs.Prelude.{◌≡◌, ℕ, List, [], ◌∷◌, length}
use Rattle.std.specs.BTreeMap.{insert_entry}
use Rattle.std.specs.List.Sorted.{IsStrictlySortedBy}
use Rattle.std.specs.Map.{keys_of}
use Rattle.std.specs.declared.cmp.Ordering.{Ordering}

-- the base, with each entry of the overlay in its place
abbrev pub put_over : {K S : Type 0} → (K → K → Ordering) → (base overlay : List (K × S)) → List (K × S)
put_over cmp base [] = base
put_over cmp base (entry ∷ overlay) = put_over cmp (insert_entry cmp base entry.0 entry.1) overlay

-- In both the keys rise, and there are so many in the map that is seen.
pub record IsLaidOver {K S : Type 0} (cmp : K → K → Ordering) (base overlay : List (K × S)) (len : ℕ) : Type 0 where
  pub base_rises : IsStrictlySortedBy cmp (keys_of base)
  pub overlay_rises : IsStrictlySortedBy cmp (keys_of overlay)
  pub counted : len ≡ length (put_over cmp base overlay)
