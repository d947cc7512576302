-- The rows of each subtask.
use Rattle.std.specs.Prelude.{◌≡◌, ℕ, List, [], ◌∷◌, ◌++◌, take, length, slice_index, slice_index_or, slice_set}
use Rattle.published_lists.specs.Beginnings.{IsBeginning}

-- the rows of a subtask: none where there is no such subtask
abbrev pub rows_of : {A : Type 0} → List (List A) → ℕ → List A
rows_of lists s = slice_index_or lists s []

-- the lists after a row was put last in those of a subtask
abbrev pub with_row : {A : Type 0} → List (List A) → ℕ → A → List (List A)
with_row lists s row = slice_set lists s (rows_of lists s ++ row ∷ [])

-- the rows of each subtask begin those of that subtask in ys
abbrev pub EachBegins : {A : Type 0} → List (List A) → List (List A) → Type 0
EachBegins xs ys = (s : ℕ) → IsBeginning (rows_of xs s) (rows_of ys s)

-- the first so many rows of each subtask
abbrev pub each_take : {A : Type 0} → List ℕ → List (List A) → List (List A)
each_take [] xs = []
each_take (n ∷ ns) [] = [] ∷ each_take ns []
each_take (n ∷ ns) (x ∷ xs) = take n x ∷ each_take ns xs

-- ns has the number of rows of each subtask
abbrev pub Counts : {A : Type 0} → List ℕ → List (List A) → Type 0
Counts ns lists = (length ns ≡ length lists) × ((s : ℕ) → slice_index ns s ≡ length (rows_of lists s))
