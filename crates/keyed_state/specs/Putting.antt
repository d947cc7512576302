-- Several entries that are put into a map.
use Rattle.std.specs.Prelude.{Bool, List, [], ◌∷◌, Option, None, Some, is_some, option_map}
use Rattle.std.specs.BTreeMap.{is_at}
use Rattle.std.specs.Map.{remove_entry, set_value}
use Rattle.std.specs.declared.cmp.Ordering.{Ordering}
use Rattle.abs_codec.specs.Entries.{value_at}

module _ {K S : Type 0} (cmp : K → K → Ordering) where
  -- an entry whose key is among these entries
  abbrev pub has_key : List (K × S) → K × S → Bool
  has_key entries entry = is_some (value_at cmp entries entry.0)

  -- what was there before at a key is there again: its state, or none
  abbrev pub with_former : List (K × S) → K → Option S → List (K × S)
  with_former entries key None = remove_entry (is_at (cmp key)) entries
  with_former entries key (Some former) = set_value (is_at (cmp key)) entries former

  -- what was there before at each of these keys is there again, from the last key to the first
  abbrev pub undone : List (K × Option S) → List (K × S) → List (K × S)
  undone [] entries = entries
  undone (note ∷ notes) entries = with_former (undone notes entries) note.0 note.1

-- what an entry that was exchanged tells of its key: the state that it took for its own, where one was expected
abbrev pub note_of : {K S : Type 0} → K × S → Option S → K × Option S
note_of entry expected = (entry.0, option_map (λ _. entry.1) expected)

-- what entries that were exchanged tell, as far as something is said of what was expected
abbrev pub notes_of : {K S : Type 0} → List (K × S) → List (Option S) → List (K × Option S)
notes_of [] expected = []
notes_of (entry ∷ entries) [] = []
notes_of (entry ∷ entries) (first ∷ others) = note_of entry first ∷ notes_of entries others
