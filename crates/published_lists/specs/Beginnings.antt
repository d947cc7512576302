-- A list that begins another.
use Rattle.std.specs.Prelude.{◌≡◌, List, length, take, nat_lt, if◌then◌else◌}

-- ys is xs, followed by some more or by nothing
abbrev pub IsBeginning : {A : Type 0} → List A → List A → Type 0
IsBeginning xs ys = take (length xs) ys ≡ xs

-- the longer of two lists
abbrev pub longer : {A : Type 0} → List A → List A → List A
longer xs ys = if nat_lt (length xs) (length ys) then ys else xs
