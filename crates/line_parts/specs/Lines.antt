-- What the lines of a text have.
use Rattle.std.specs.Prelude.{◌≡◌, ◌<◌, ℕ, zero, suc, List, [], ◌∷◌, ◌++◌, length, Option, None, Some, Bool, true, Vec}
use Rattle.std.specs.List.{flat_map}
use Rattle.std.specs.declared.alloc.Global.{Global}
use Rattle.std.specs.Io.BufRead.{take_through, drop_through}

abbrev pub items_of : {X : Type 0} → Option X → List X
items_of None = []
items_of (Some x) = x ∷ []

-- The text begins with so many lines, which have these items in turn, and the rest stands behind them. Only the last line may have no end.
abbrev pub BeginsWithLines : {X : Type 0} → (List ℕ → Option X → Type 0) → ℕ → List ℕ → List X → List ℕ → Type 0
BeginsWithLines HasItem zero text items rest = (items ≡ []) × (text ≡ rest)
BeginsWithLines {X = X} HasItem (suc n) text items rest =
    (item : Option X) × (more : List X) × (0 < length text) × HasItem (take_through 10 text) item
    × BeginsWithLines HasItem n (drop_through 10 text) more rest × (items ≡ items_of item ++ more)

-- So many lines of the text have these items in turn: all its lines, where it is read whole.
abbrev pub ReadsLines : {X : Type 0} → (List ℕ → Option X → Type 0) → List ℕ → ℕ → List X → Bool → Type 0
ReadsLines HasItem text n items is_whole = (rest : List ℕ) × BeginsWithLines HasItem n text items rest × (is_whole ≡ true → rest ≡ [])

-- the items of the runs, one run behind another
abbrev pub in_runs : {X : Type 0} → List (Vec X Global) → List X
in_runs runs = flat_map (λ run. run.items) runs
