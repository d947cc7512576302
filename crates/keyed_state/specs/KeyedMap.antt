-- A map by its entries, and the map as it was when it was frozen.
use Rattle.std.specs.Prelude.{ℕ, List, [], Option, None, Some, filter, unwrap_or}
use Rattle.std.specs.Ordering.{is_lt}
use Rattle.std.specs.declared.cmp.Ordering.{Ordering}

pub record KeyedMap (K S : Type 0) : Type 0 where
  -- the entries that are seen, by rising keys
  pub entries : List (K × S)
  -- the entries at the last `freeze`, until `thaw`
  pub frozen : Option (List (K × S))
  -- how many keys have a later write that is still to be merged
  pub unmerged : ℕ

-- the entries of the frozen map, none where there is no such map
abbrev pub frozen_entries : {K S : Type 0} → KeyedMap K S → List (K × S)
frozen_entries map = unwrap_or map.frozen []

-- the entries whose keys are above this one, or all of them
abbrev pub entries_above : {K S : Type 0} → (K → K → Ordering) → Option K → List (K × S) → List (K × S)
entries_above cmp None entries = entries
entries_above cmp (Some key) entries = filter (λ entry. is_lt (cmp key entry.0)) entries
