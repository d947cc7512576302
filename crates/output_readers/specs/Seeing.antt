-- What contracts see of the writer and of a reader, and what the two keep.
use Rattle.std.specs.Prelude.{◌≡◌, ℕ, ◌≤◌, List, Option, Some, [], length, slice_index}
use Rattle.std.specs.List.{All}
use Rattle.logbook.specs.Pages.{Book}
use Rattle.published_lists.specs.Beginnings.{longer}
use Rattle.published_lists.specs.Editions.{Edition, Follows}
use Rattle.published_lists.specs.Holding.{Held, IsSealed}
use Rattle.published_lists.specs.Rows.{rows_of, EachBegins, Counts}

-- whose history it is, the lists that readers can see, all that was handed in, and how many readers are not handed out
pub record Output : Type 0 where
  pub history : Book
  pub published : List (List (List ℕ))
  pub appended : List (List (List ℕ))
  pub readers : ℕ

-- whose history it is, the lists that its last look found, those of them that it has read, and the lists that it was told of
pub record Knowledge : Type 0 where
  pub history : Book
  pub found : List (List (List ℕ))
  pub read : List (List (List ℕ))
  pub told : List (List (List ℕ))

-- a reader's view of a subtask: the longest list of it that it has read or was told of
abbrev pub view_of : Knowledge → ℕ → List (List ℕ)
view_of k s = longer (rows_of k.read s) (rows_of k.told s)

-- a reader that has read nothing and was told of no row
pub record IsOpening (book : Book) (count : ℕ) (k : Knowledge) : Type 0 where
  pub history : k.history ≡ book
  pub subtasks : length k.read ≡ count
  pub view : (s : ℕ) → view_of k s ≡ []

-- A writer's seat knows the edition that it shows. What it has named begins all that was handed in.
pub record IsWriting (book : Book) (seat : Option Edition) (shown next : Held) (last : Edition) (lengths : List ℕ) (rest : List Knowledge) : Type 0 where
  pub head : book ≡ last.history
  pub known : seat ≡ Some shown.edition
  pub sealed : IsSealed shown
  pub named : Follows shown.edition last
  pub begins : EachBegins last.lists next.lists
  pub counts : Counts lengths next.lists
  pub readers : All (IsOpening last.history (length lengths)) rest

-- A reader's place knows what the reader was told, and has at least the rows that the reader has read.
pub record IsReading (last found : Edition) (lengths : List ℕ) : Type 0 where
  pub told : Follows last found
  pub read : (s : ℕ) → slice_index lengths s ≤ length (rows_of found.lists s)
