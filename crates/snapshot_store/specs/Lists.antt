-- What a store holds, as lists.
use Rattle.std.specs.Prelude.{◌<◌, ◌≤◌, ℕ, List, filter}
use Rattle.std.specs.List.{range_with_len}
use Rattle.std.specs.FinMap as fin
use Rattle.snapshot_store.specs.Store.{Stored, is_complete}

-- the complete numbers, rising
abbrev pub complete_list : Stored → List ℕ
complete_list s = filter (is_complete s) (range_with_len 0 s.next)

-- the parts, rising by number and then by task
abbrev pub part_list : Stored → List ((ℕ × ℕ) × List ℕ)
part_list s = fin.entries s.parts

-- a number that was given out
abbrev pub WasGiven : ℕ → ℕ → Type 0
WasGiven next number = (1 ≤ number) × (number < next)

-- the key of a part that a store may hold
abbrev pub MayBePut : ℕ → ℕ → (ℕ × ℕ) × List ℕ → Type 0
MayBePut tasks next part = WasGiven next part.0.0 × (part.0.1 < tasks)
