-- What is kept of a copy: its entries while they are frozen, and the front of its spelling.
use Rattle.std.specs.Prelude.{◌≡◌, ◌<◌, ◌≤◌, ◌-◌, ◌^◌, ℕ, Bool, false, List, [], ◌∷◌, ◌++◌, length, take, drop, Option, None, Some, is_some, Ok, Err}
use Rattle.std.specs.Int.{to_be_bytes, w32}
use Rattle.std.specs.List.{flat_map, All}
use Rattle.std.specs.List.Sorted.{IsStrictlySortedBy}
use Rattle.std.specs.Map.{keys_of}
use Rattle.std.specs.declared.cmp.Ordering.{Ordering}
use Rattle.abs_codec.specs.Reading.{Reading, map_at}
use Rattle.abs_codec.specs.Spelling.{pair_spelling, PairIsSpelled}
use Rattle.keyed_state.specs.KeyedMap.{entries_above}

-- what was read, or nothing
abbrev pub entries_or_none : {K S : Type 0} → Reading (List (K × S)) → List (K × S)
entries_or_none (Ok read) = read.0
entries_or_none (Err fault) = []

-- the entries of a copy: the frozen ones, or those that are read behind the tag
abbrev pub copied : {K S : Type 0} → (K → K → Ordering) → (List ℕ → Reading K) → (List ℕ → Reading S) → Option (List (K × S)) → List ℕ → List (K × S)
copied cmp keys states (Some entries) bytes = entries
copied cmp keys states None bytes = entries_or_none (map_at cmp keys states (drop 1 bytes))

-- the tag of an operator's part, how many entries there are, and the first of them
abbrev pub front_spelling : {K S : Type 0} → (K → List ℕ) → (S → List ℕ) → ℕ → List (K × S) → List ℕ
front_spelling keys states count first = 1 ∷ (to_be_bytes w32 count ++ flat_map (pair_spelling keys states) first)

-- The head stands before the first entry.
abbrev pub Begins : {K : Type 0} → Option K → ℕ → (before after : List ℕ) → Type 0
Begins None count before after = (count < 2 ^ 32) × (after ≡ before ++ 1 ∷ to_be_bytes w32 count)
Begins (Some key) count before after = after ≡ before

module _ {K S : Type 0} (cmp : K → K → Ordering) (Key : K → Type 0) (keys : K → List ℕ) (State : S → Type 0) (states : S → List ℕ) where
  -- All entries up to this key are spelled, and the last ones are left.
  pub record IsSpelledTo (key : K) (entries : List (K × S)) (left : ℕ) (bytes : List ℕ) : Type 0 where
    pub counted : length entries < 2 ^ 32
    pub spelled : All (PairIsSpelled Key State) (take (length entries - left) entries)
    pub text : bytes ≡ front_spelling keys states (length entries) (take (length entries - left) entries)
    pub others : entries_above cmp (Some key) entries ≡ drop (length entries - left) entries

  -- nothing is spelled, or all entries up to a last one
  abbrev pub IsFront : Option K → List (K × S) → ℕ → List ℕ → Type 0
  IsFront None entries left bytes = (left ≡ length entries) × (bytes ≡ [])
  IsFront (Some key) entries left bytes = IsSpelledTo key entries left bytes

  -- So many entries are left behind a last key, and some of them come next.
  pub record ComesNext (last : Option K) (left count : ℕ) (entries : List (K × S)) : Type 0 where
    pub front : List ℕ
    pub behind : IsFront last entries left front
    pub within : left ≤ length entries
    pub some : 0 < count
    pub there : count ≤ left

  -- These bytes are the next entries, of which so many were left before: they go on behind all that come before them.
  pub record GoesOn (entries : List (K × S)) (begun : Bool) (before : ℕ) (last : Option K) (left : ℕ) (bytes : List ℕ) : Type 0 where
    pub fewer : left < before
    pub behind : (key : Option K) (front : List ℕ) → is_some key ≡ begun → IsFront key entries before front → IsFront last entries left (front ++ bytes)

  -- The keys of the copy rise, no more entries are left than it has, and they are frozen as long as any are left.
  pub record IsHeld (frozen : Option (List (K × S))) (entries : List (K × S)) (has_copied : Bool) (last : Option K) (left : ℕ) (bytes : List ℕ) : Type 0 where
    pub rises : IsStrictlySortedBy cmp (keys_of entries)
    pub within : left ≤ length entries
    pub front : IsFront last entries left bytes
    pub frozen_on : frozen ≡ None → left ≡ 0
    pub frozen_off : left ≡ 0 → frozen ≡ None
    pub copied_first : has_copied ≡ false → left ≡ 0
