-- Lines that stand one after the other.
use Rattle.std.specs.Prelude.{◌≡◌, ℕ, zero, suc, ◌*◌, min, List, [], ◌++◌, Option}
use Rattle.std.specs.Io.KnownBytes.{Appends}

-- The bytes are so many lines, one after the other: each is what the line of its number may be, and the first has this number.
abbrev pub AreLines : (ℕ → List ℕ → Type 0) → ℕ → ℕ → List ℕ → Type 0
AreLines IsLine first zero bytes = bytes ≡ []
AreLines IsLine first (suc n) bytes = (line : List ℕ) × (rest : List ℕ) × IsLine first line × AreLines IsLine (suc first) n rest × (bytes ≡ line ++ rest)

-- they are put last in what a writer holds, where that is known
abbrev pub WritesLines : (ℕ → List ℕ → Type 0) → ℕ → ℕ → Option (List ℕ) → Option (List ℕ) → Type 0
WritesLines IsLine first n old new = (bytes : List ℕ) × AreLines IsLine first n bytes × Appends old new bytes

-- how many of so many lines stand before a part, where each part but the last has so many
abbrev pub lines_before : ℕ → ℕ → ℕ → ℕ
lines_before count size part = min count (part * size)
