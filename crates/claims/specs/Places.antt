-- The states that are left, by place.
use Rattle.std.specs.Prelude.{◌≡◌, ◌<◌, ℕ, true, List, [], ◌∷◌, length, map, slice_get, slice_index_or, Option, Some, None, is_some, if◌then◌else◌}
use Rattle.std.specs.BTreeMap.{is_at}
use Rattle.std.specs.declared.cmp.Ordering.{Ordering}
use Rattle.abs_codec.specs.Entries.{value_at}
use Rattle.claims.specs.Left.{either}
use Rattle.claims.specs.declared.left.Place.{Place}

module _ {K S : Type 0} where
  -- the entry that is given at a place
  abbrev pub entry_given : Place K S → K × Option S
  entry_given place = (place.key.now, place.given.now)

  -- the entries that are given at these places
  abbrev pub given_at : List (Place K S) → List (K × Option S)
  given_at places = map entry_given places

  -- before these entries the state that is left under the key, if one is
  abbrev pub with_left : K → Option S → List (K × S) → List (K × S)
  with_left key None entries = entries
  with_left key (Some state) entries = (key, state) ∷ entries

  -- the entries that are left at these places
  abbrev pub left_at : List (Place K S) → List (K × S)
  left_at [] = []
  left_at (place ∷ places) = with_left place.key.now place.left (left_at places)

  -- the state that stands there: the one that is left, or else the one that is given
  abbrev pub state_there : Option (Place K S) → Option S
  state_there None = None
  state_there (Some place) = either place.left place.given.now

  -- the state at a place
  abbrev pub state_at : List (Place K S) → Option ℕ → Option S
  state_at places None = None
  state_at places (Some place) = state_there (slice_get places place)

  -- the state is left at the key, and at every other what was left before
  abbrev pub LeavesAt : (K → K → Ordering) → K → S → List (K × S) → List (K × S) → Type 0
  LeavesAt cmp key state old new = (q : K) → value_at cmp new q ≡ (if is_at (cmp key) q then Some state else value_at cmp old q)

  module _ (cmp : K → K → Ordering) (places : List (Place K S)) where
    -- a record's key, if it has one, is among those of the places
    abbrev pub HasPlace : Option K → Type 0
    HasPlace key = (k : K) → key ≡ Some k → is_some (value_at cmp (given_at places) k) ≡ true

    -- the key has this place
    pub record IsPlaceOf (key : Option K) (place : ℕ) : Type 0 where
      pub in_range : place < length places
      pub keyed : is_some key ≡ true
      pub under : (k : K) → key ≡ Some k → (d : Place K S) → is_at (cmp k) (slice_index_or places place d).key.now ≡ true
