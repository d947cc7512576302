-- States that stand in slots, and the place of each key.
use Rattle.std.specs.Prelude.{◌≡◌, ℕ, List, [], ◌∷◌, Option, None, Some, slice_get}
use Rattle.std.specs.BTreeMap.{is_at}
use Rattle.std.specs.List.{AllByRecursion}
use Rattle.std.specs.Map.{lookup}
use Rattle.std.specs.declared.cmp.Ordering.{Ordering}
use Rattle.std.specs.declared.cmp.Ordering.TheVariants.{Equal}
use Rattle.state_table.specs.declared.table.Slot.{Slot}

module _ {K S : Type 0} where
  -- the state at a place, if there is one
  abbrev pub state_in : List (Slot K S) → ℕ → Option S
  state_in slots place = elim (slice_get slots place) [ None ↦ None | Some slot ↦ slot.state ]

  -- the keys, each with the state at its place
  abbrev pub entries_in : List (Slot K S) → List (K × ℕ) → List (K × S)
  entries_in slots [] = []
  entries_in slots (e ∷ places) = elim (state_in slots e.1) [ None ↦ entries_in slots places | Some state ↦ (e.0, state) ∷ entries_in slots places ]

  -- a key's place has a state, and is that key's
  abbrev pub HasSlot : List (Slot K S) → K × ℕ → Type 0
  HasSlot slots e = (state : S) × (slice_get slots e.1 ≡ Some (record { key = e.0; state = Some state }))

  -- Each key has its place, and each place with a state is its key's.
  pub record ArePlaces (cmp : K → K → Ordering) (slots : List (Slot K S)) (places : List (K × ℕ)) : Type 0 where
    pub there : AllByRecursion (HasSlot slots) places
    pub known : (place : ℕ) (key : K) (state : S) → slice_get slots place ≡ Some (record { key = key; state = Some state }) → lookup (is_at (cmp key)) places ≡ Some place

  -- a place has a state, and its key ties with this one
  pub record StandsAt (cmp : K → K → Ordering) (slots : List (Slot K S)) (place : ℕ) (key : K) : Type 0 where
    pub own : K
    pub state : S
    pub is : slice_get slots place ≡ Some (record { key = own; state = Some state })
    pub ties : cmp key own ≡ Equal
