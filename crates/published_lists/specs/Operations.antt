-- What each of the two copies holds, and what operations make of it.
use Rattle.std.specs.Prelude.{ℕ, List, drop, fold}
use Rattle.published_lists.specs.Rows.{with_row}
use Rattle.published_lists.specs.Holding.{Held}
use Rattle.published_lists.specs.declared.lists.Operation.{Operation}
use Rattle.published_lists.specs.declared.lists.Operation.TheVariants.{Append, Seal}

-- a row is put last in its subtask's list; or the lists get the edition that names them
abbrev pub after : Held → Operation → Held
after held (Append subtask row) = record { lists = with_row held.lists subtask row.items; edition = held.edition }
after held (Seal edition) = record { lists = held.lists; edition = edition }

-- after several operations
abbrev pub after_all : Held → List Operation → Held
after_all held ops = fold after held ops

-- what is shown, after the operations that are still to come to it
abbrev pub staged : Held → ℕ → List Operation → Held
staged shown behind log = after_all shown (drop behind log)
