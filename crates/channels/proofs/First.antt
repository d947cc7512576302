-- The records that stand first in a channel.
use Rattle.std.proofs.Common.{zero, suc, ◌≡◌, ◌≤◌, ◌+◌, ◌-◌, ◌++◌, ℕ, List, [], ◌∷◌, length, map, min, take, drop, refl, sym, ap, ◌∙◌, inl, inr, arith}
use Rattle.std.proofs.lemmas.List.{length-take, take-take, take_min, drop-take, drop_all}
use Rattle.std.proofs.lemmas.Bool.{cases_lt}
use Rattle.channels.specs.Items.{leading_records}
use Rattle.channels.specs.Queues.{interleaved}
use Rattle.channels.specs.declared.item.Item.{Item}
use Rattle.channels.specs.declared.item.Item.TheVariants.{Record, Barrier}
use Rattle.channels.specs.declared.spaced_barrier.SpacedBarrier.{SpacedBarrier}
use Rattle.channels.proofs.Queues.{leads_of_records}

module _ {R : Type 0} where
  -- these records are the first of those
  abbrev pub Begin : List R → List R → Type 0
  Begin rows records = take (length rows) records ≡ rows

  -- these records stand first, with no barrier before one of them
  abbrev pub Stand : List R → List (Item R) → Type 0
  Stand rows items = take (length rows) items ≡ map Record rows

  pub none_begin : (rows records : List R) → length rows ≡ 0 → Begin rows records
  none_begin [] records none = refl
  none_begin (row ∷ rows) records none = absurd (omega arith)

  begin_more : (r row : R) (records rows : List R) → r ≡ row → Begin rows records → Begin (row ∷ rows) (r ∷ records)
  begin_more r row records rows is begin = ap (λ (x : R). x ∷ take (length rows) records) is ∙ ap (λ (xs : List R). row ∷ xs) begin

  first_is : (r row : R) (records rows : List R) → ◌≡◌ {A = List R} (r ∷ records) (row ∷ rows) → r ≡ row
  first_is r row records rows e = cc

  rest_is : (r row : R) (records rows : List R) → ◌≡◌ {A = List R} (r ∷ records) (row ∷ rows) → records ≡ rows
  rest_is r row records rows e = cc

  begin_first : (r row : R) (records rows : List R) → Begin (row ∷ rows) (r ∷ records) → r ≡ row
  begin_first r row records rows begin = first_is r row (take (length rows) records) rows begin

  begin_rest : (r row : R) (records rows : List R) → Begin (row ∷ rows) (r ∷ records) → Begin rows records
  begin_rest r row records rows begin = rest_is r row (take (length rows) records) rows begin

  -- both are walked by one record
  module _ (r row : R) (records others rows left : List R) (at : records ≡ r ∷ others) (there : rows ≡ row ∷ left) where
    pub walked_more : r ≡ row → Begin left others → Begin rows records
    walked_more is begin = rw (at, there) (begin_more r row others left is begin)

    pub walked_first : Begin rows records → r ≡ row
    walked_first begin = begin_first r row others left (rw (at, there) at begin)

    pub walked_rest : Begin rows records → Begin left others
    walked_rest begin = begin_rest r row others left (rw (at, there) at begin)

  stand_more : (r row : R) (items : List (Item R)) (rows : List R) → r ≡ row → Stand rows items → Stand (row ∷ rows) (Record r ∷ items)
  stand_more r row items rows is stand = ap (λ (x : R). Record x ∷ take (length rows) items) is ∙ ap (λ (xs : List (Item R)). Record row ∷ xs) stand

  head_row : (r row : R) (xs ys : List (Item R)) → ◌≡◌ {A = List (Item R)} (Record r ∷ xs) (Record row ∷ ys) → r ≡ row
  head_row r row xs ys e = cc

  tail_is : (x y : Item R) (xs ys : List (Item R)) → ◌≡◌ {A = List (Item R)} (x ∷ xs) (y ∷ ys) → xs ≡ ys
  tail_is x y xs ys e = cc

  -- those that are the first of the leading ones stand first
  stand_where_begin : (rows : List R) (items : List (Item R)) → Begin rows (leading_records items) → Stand rows items
  stand_where_begin [] items begin = refl
  stand_where_begin (row ∷ rows) [] begin = absurd cc
  stand_where_begin (row ∷ rows) (Barrier n ∷ items) begin = absurd cc
  stand_where_begin (row ∷ rows) (Record r ∷ items) begin =
      stand_more r row items rows (begin_first r row (leading_records items) rows begin) (stand_where_begin rows items (begin_rest r row (leading_records items) rows begin))

  begin_where_stand : (rows : List R) (items : List (Item R)) → Stand rows items → Begin rows (leading_records items)
  begin_where_stand [] items stand = refl
  begin_where_stand (row ∷ rows) [] stand = absurd cc
  begin_where_stand (row ∷ rows) (Barrier n ∷ items) stand = absurd cc
  begin_where_stand (row ∷ rows) (Record r ∷ items) stand =
      begin_more r row (leading_records items) rows (head_row r row (take (length rows) items) (map Record rows) stand)
      (begin_where_stand rows items (tail_is (Record r) (Record row) (take (length rows) items) (map Record rows) stand))

  begin_within : (rows records : List R) → Begin rows records → length rows ≤ length records
  begin_within rows records begin = omega (arith, ap (λ (l : List R). length l) begin, length-take (length rows) records)

  -- as many records lead as stand first
  pub stand_within : (rows : List R) (items : List (Item R)) → Stand rows items → length rows ≤ length (leading_records items)
  stand_within rows items stand = begin_within rows (leading_records items) (begin_where_stand rows items stand)

  module _ (barriers : List SpacedBarrier) (records rows : List R) (few : length rows ≤ length (leading_records (interleaved barriers records))) where
    same_first : take (length rows) (leading_records (interleaved barriers records)) ≡ take (length rows) records
    same_first =
        let leading = leading_records (interleaved barriers records) in
        ap (take (length rows)) (leads_of_records barriers records) ∙ take-take (length rows) (length leading) records few

    -- no barrier stands before one of so few records
    pub stand_from_queue : Begin rows records → Stand rows (interleaved barriers records)
    stand_from_queue begin = stand_where_begin rows (interleaved barriers records) (same_first ∙ begin)

    pub queue_from_stand : Stand rows (interleaved barriers records) → Begin rows records
    queue_from_stand stand = sym same_first ∙ begin_where_stand rows (interleaved barriers records) stand

  take_none : (n : ℕ) (rows : List R) → n ≡ 0 → take n rows ≡ []
  take_none n rows none = ap (λ (m : ℕ). take m rows) none

  -- of no records a part is none
  part_of_none : (from end : ℕ) (rows : List R) → min end (length rows) ≡ 0 → drop from (take end rows) ≡ []
  part_of_none from end rows none = drop_all from (take end rows) (omega (arith, none, length-take end rows))

  -- a part that goes no further than there are records
  pub part_within : (rows : List R) (from end to at : ℕ) → to ≡ min end (length rows) → at ≡ min from to → take (to - at) (drop at rows) ≡ drop from (take end rows)
  part_within rows from end to at last first =
      let cut : take to rows ≡ take end rows = ap (λ (n : ℕ). take n rows) last ∙ take_min end rows in
      elim (cases_lt to from) [
        | inl past ↦
            let none : take (to - at) (drop at rows) ≡ [] = take_none (to - at) (drop at rows) (omega arith) in
            none ∙ sym (drop_all from (take to rows) (omega (arith, length-take to rows))) ∙ ap (drop from) cut
        | inr before ↦
            let here : at ≡ from = omega arith in
            let sum : from + (to - from) ≡ to = omega arith in
            ap (λ (n : ℕ). take (to - n) (drop n rows)) here ∙ sym (drop-take from (to - from) rows) ∙ ap (λ (n : ℕ). drop from (take n rows)) sum ∙ ap (drop from) cut
      ]

  -- a part of two lists is one of each
  pub part_of_two : (first second : List R) (from end at to : ℕ) → at ≡ from - length first → to ≡ end - length first → drop from (take end (first ++ second)) ≡ drop from (take end first) ++ drop at (take to second)
  part_of_two [] second from end at to here there =
      let none : drop from (take end []) ≡ [] = part_of_none from end [] (omega arith) in
      let same : at ≡ from = omega (arith, here) in
      let last : to ≡ end = omega (arith, there) in
      ap (λ (n : ℕ). drop n (take end second)) (sym same) ∙ ap (λ (n : ℕ). drop at (take n second)) (sym last) ∙ sym (ap (λ (xs : List R). xs ++ drop at (take to second)) none)
  part_of_two (r ∷ first) second from zero at to here there =
      let one : drop from (take zero (r ∷ first)) ≡ [] = part_of_none from zero (r ∷ first) (omega arith) in
      let two : drop at (take to second) ≡ [] = part_of_none at to second (omega (arith, there)) in
      part_of_none from zero (r ∷ first ++ second) (omega arith) ∙ sym (ap (λ (xs : List R). xs ++ drop at (take to second)) one ∙ two)
  part_of_two (r ∷ first) second zero (suc end) at to here there = ap (λ (xs : List R). r ∷ xs) (part_of_two first second zero end at to (omega (arith, here)) (omega (arith, there)))
  part_of_two (r ∷ first) second (suc from) (suc end) at to here there = part_of_two first second from end at to (omega (arith, here)) (omega (arith, there))

  module _ (barriers : List SpacedBarrier) (records : List R) where
    -- a part of the records that lead is one of all
    pub part_of_leading : (from count : ℕ) → from + count ≤ length (leading_records (interleaved barriers records)) → take count (drop from (leading_records (interleaved barriers records))) ≡ drop from (take (from + count) records)
    part_of_leading from count within =
        let leading = leading_records (interleaved barriers records) in
        sym (drop-take from count leading) ∙ ap (λ (xs : List R). drop from (take (from + count) xs)) (leads_of_records barriers records) ∙ ap (drop from) (take-take (from + count) (length leading) records within)
