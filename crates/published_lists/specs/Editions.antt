-- Editions: beginnings of one history. Each of its entries names the lists of rows that were to be published next.
use Rattle.std.specs.Prelude.{◌≡◌, ◌==◌, ℕ, true, List, [], ◌∷◌, ◌++◌, length, fold, All, MatchBool}
use Rattle.logbook.specs.Pages.{Cell, Step, View, Book, Named}
use Rattle.published_lists.specs.Rows.{EachBegins}

-- of which history it is, how many of its entries this is the beginning of, and the lists that the last of these names
pub record Edition : Type 0 where
  pub history : Book
  pub entries : ℕ
  pub lists : List (List (List ℕ))

-- the same history, and of each subtask the rows of v and perhaps more
abbrev pub Follows : Edition → Edition → Type 0
Follows v x = (x.history ≡ v.history) × EachBegins v.lists x.lists

-- the last entry, and no lists where there is none
abbrev pub last_of : List (List (List (List ℕ))) → List (List (List ℕ))
last_of log = fold (λ _ next. next) [] log

-- each entry begins the last
abbrev pub IsRising : List (List (List (List ℕ))) → Type 0
IsRising log = All (λ lists. EachBegins lists (last_of log)) log

-- The first word is the length of the history. A book has two words, of which this one leaves the second at 0.
abbrev pub IsCounted : List Cell → List (List (List (List ℕ))) → Type 0
IsCounted cells log = cells ≡ (length log, true) ∷ (0, true) ∷ []

abbrev pub head_of : Book → Named
head_of b = record { tracked = true; key = 0; book = b }

-- the entry was added to all that had been seen; or the history was longer
abbrev pub Adds : Step (List (List (List ℕ))) → View (List (List (List ℕ))) ℕ → ℕ → View (List (List (List ℕ))) ℕ → Type 0
Adds s v found w = MatchBool (found == s.old) (w.0 ≡ v.0 ++ s.ask ∷ []) (length w.0 ≡ found)
