-- What a snapshot store stands for, and the numbers on its line.
use Rattle.std.proofs.Common.{◌≡◌, ◌≤◌, ◌++◌, ℕ, true, List, [], ◌∷◌}
use Rattle.std.specs.List.{range_with_len, filter}
use Rattle.checkpoint_model.specs.Durable as durable
use Rattle.checkpoint_model.specs.Durable.{is_on}
use Rattle.snapshot_store.specs.Store.{Stored, IsNumbered, is_complete, part_of}
use Rattle.engine_model.specs.Language.{Language}
use Rattle.engine_model.specs.View.{part_in}
use Rattle.engine_model.proofs.Store.Line.{passing_last, on_line}

-- the complete numbers, rising
abbrev pub line_of : Stored → List ℕ
line_of stored = filter (is_complete stored) (range_with_len 0 stored.next)

module _ {R K S O : Type 0} where
  abbrev pub store_of : Language R K S O → Stored → durable.Store R K S
  store_of lang stored = record { next = stored.next; parts = λ number task. part_in lang (part_of stored number task); line = line_of stored }

-- on the line stand the complete numbers
pub is_on-line_of : (stored : Stored) (n : ℕ) → IsNumbered stored → is_on (line_of stored) n ≡ is_complete stored n
is_on-line_of stored n numbered = on_line (is_complete stored) stored.next n (λ e. (numbered.completes n e).1)

-- the greatest complete number stands last
pub last_of_line : (stored : Stored) (last : ℕ) → IsNumbered stored → is_complete stored last ≡ true → ((n : ℕ) → is_complete stored n ≡ true → n ≤ last)
    → (front : List ℕ) × (line_of stored ≡ front ++ last ∷ [])
last_of_line stored last numbered complete greatest =
    (filter (is_complete stored) (range_with_len 0 last), passing_last (is_complete stored) last stored.next complete greatest (numbered.completes last complete).1)
